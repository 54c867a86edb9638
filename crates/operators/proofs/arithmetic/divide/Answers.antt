use Rattle.std.proofs.Common.{Err, sym, ap, ◌∙◌, arith}
use Rattle.std.proofs.lemmas.Result.{err_from_is_err_and}
use Rattle.std.proofs.lemmas.Bool.{cond-true, cond-false, eq-eqb, ne_eqb}
use Rattle.machine.specs.Machine.{operate}
use Rattle.machine.specs.Abstraction.{after}
use Rattle.operators.proofs.arithmetic.divide.Goals as goal

pub returns-in_err-a : goal.returns-in_err-a
unfolding operate
returns-in_err-a g c =
    let m = c.args.m.now in
    let q = err_from_is_err_and c.from_residual.result c.from_residual.ensures.1 in
    λ p t. ap (λ r. after r m p t) (q.1 ∙ ap Err q.2) ∙ sym (c.in_err-a.ensures p t _)

pub returns-then-b-eq0 : goal.returns-then-b-eq0
unfolding operate
returns-then-b-eq0 g c = λ p t. sym (c.in_ok-a.ensures p t _ ∙ cond-true _ _ _ (eq-eqb c.in_ok-a.b 0 (omega arith)))

pub returns : goal.returns
unfolding operate
returns g c = λ p t. c.put_result.ensures p t ∙ sym (c.in_ok-a.ensures p t _ ∙ cond-false _ _ _ (ne_eqb c.in_ok-a.b 0 (λ e. omega arith)))
