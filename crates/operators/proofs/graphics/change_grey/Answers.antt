use Rattle.std.proofs.Common.{drop, Err, sym, ap, ◌∙◌, arith}
use Rattle.std.proofs.lemmas.Result.{err_from_is_err_and}
use Rattle.std.proofs.lemmas.Bool.{cond-true, cond-false, lt-ltb, le-ltb}
use Rattle.machine.specs.Machine.{on, with_stack, operate}
use Rattle.machine.specs.Abstraction.{state, after}
use Rattle.operators.proofs.graphics.change_grey.Goals as goal

pub returns-in_err-n : goal.returns-in_err-n
unfolding operate
returns-in_err-n g c =
    let m = c.args.m.now in
    let q = err_from_is_err_and c.from_residual.result c.from_residual.ensures.1 in
    λ p t. ap (λ r. after r m p t) (q.1 ∙ ap Err q.2) ∙ sym (c.in_err-n.ensures (state m p t) _)

pub returns-then-n-gt-WHITE : goal.returns-then-n-gt-WHITE
unfolding operate
returns-then-n-gt-WHITE g c =
    let m = c.args.m.now in
    λ p t. sym (c.in_ok-n.ensures (state m p t) _ ∙ cond-false _ _ _ (le-ltb c.in_ok-n.n 256 (omega arith)))

pub returns : goal.returns
unfolding operate
returns g c =
    let m = c.args.m.now in
    λ p t. ap on (c.drop_operands.ensures p t ∙ ap (λ x. with_stack x (drop 1 x.stack)) (c.set_grey.ensures p t)) ∙ sym (c.in_ok-n.ensures (state m p t) _ ∙ cond-true _ _ _ (lt-ltb c.in_ok-n.n 256 (omega arith)))
