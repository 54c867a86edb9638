use Rattle.std.proofs.Common.{Err, sym, ap, ◌∙◌, arith}
use Rattle.std.proofs.lemmas.Result.{err_from_is_err_and}
use Rattle.std.proofs.lemmas.Bool.{cond-true, cond-false, le-leb, lt-leb}
use Rattle.machine.specs.Machine.{operate}
use Rattle.machine.specs.Abstraction.{after}
use Rattle.operators.proofs.arithmetic.subtract.Goals as goal

pub returns-in_err-a : goal.returns-in_err-a
unfolding operate
returns-in_err-a g c =
    let m = c.args.m.now in
    let q = err_from_is_err_and c.from_residual.result c.from_residual.ensures.1 in
    λ p t. ap (λ r. after r m p t) (q.1 ∙ ap Err q.2) ∙ sym (c.in_err-a.ensures p t _)

pub returns-then-b-a : goal.returns-then-b-a
unfolding operate
returns-then-b-a g c = λ p t. sym (c.in_ok-a.ensures p t _ ∙ cond-false _ _ _ (lt-leb c.in_ok-a.b c.in_ok-a.a (omega arith)))

pub returns : goal.returns
unfolding operate
returns g c = λ p t. c.put_result.ensures p t ∙ sym (c.in_ok-a.ensures p t _ ∙ cond-true _ _ _ (le-leb c.in_ok-a.b c.in_ok-a.a (omega arith)))
