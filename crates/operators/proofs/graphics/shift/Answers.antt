use Rattle.std.proofs.Common.{drop, Err, sym, ap, ◌∙◌}
use Rattle.std.proofs.lemmas.Result.{err_from_is_err_and}
use Rattle.std.proofs.lemmas.Bool.{cond-true, cond-false}
use Rattle.machine.specs.Machine.{on, with_stack, operate}
use Rattle.machine.specs.Abstraction.{state, stack_of, after, with_corner}
use Rattle.operators.proofs.graphics.shift.Goals as goal

pub returns-in_err-a : goal.returns-in_err-a
unfolding operate
returns-in_err-a g c =
    let m = c.args.m.now in
    let q = err_from_is_err_and c.from_residual.result c.from_residual.ensures.1 in
    λ p t. ap (λ r. after r m p t) (q.1 ∙ ap Err q.2) ∙ sym (c.in_err-a.ensures p t _)

pub returns-in_default : goal.returns-in_default
unfolding operate
returns-in_default g c = λ p t. sym (c.in_ok-a.ensures p t _ ∙ cond-false _ _ _ c.in_default.ensures)

pub returns : goal.returns
unfolding operate
returns g c =
    let m = c.args.m.now in
    λ p t.
    let s = state m p t in
    ap on (c.drop_operands.ensures p t ∙ ap (λ x. with_stack x (drop 2 x.stack)) (c.set_corner.ensures p t) ∙ ap (λ q. with_stack (with_corner s q.x q.y) (drop 2 (stack_of m))) c.in-Some.ensures.1)
    ∙ sym (c.in_ok-a.ensures p t _ ∙ cond-true _ _ _ c.in-Some.ensures.0)
