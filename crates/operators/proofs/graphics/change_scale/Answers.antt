use Rattle.std.proofs.Common.{◌*◌, ◌/◌, drop, Err, sym, ap, ◌∙◌, arith}
use Rattle.std.proofs.lemmas.Result.{err_from_is_err_and}
use Rattle.std.proofs.lemmas.Bool.{cond-true, cond-false, lt-ltb, le-ltb}
use Rattle.machine.specs.Machine.{on, with_stack, operate}
use Rattle.machine.specs.Abstraction.{state, stack_of, after, with_scale}
use Rattle.operators.proofs.graphics.change_scale.Goals as goal

pub returns-in_err-n : goal.returns-in_err-n
unfolding operate
returns-in_err-n g c =
    let m = c.args.m.now in
    let q = err_from_is_err_and c.from_residual.result c.from_residual.ensures.1 in
    λ p t. ap (λ r. after r m p t) (q.1 ∙ ap Err q.2) ∙ sym (c.in_err-n.ensures (state m p t) _)

pub returns-then-scale-ge-SCALES : goal.returns-then-scale-ge-SCALES
unfolding operate
returns-then-scale-ge-SCALES g c =
    let m = c.args.m.now in
    let k = c.in_ok-n.n in
    let same = ap (λ x. x * k / 16) c.scale-old.ensures in
    λ p t. sym (c.in_ok-n.ensures (state m p t) _ ∙ cond-false _ _ _ (le-ltb (m.drawing.graphics.scale * k / 16) 65536 (omega arith)))

pub returns : goal.returns
unfolding operate
returns g c =
    let m = c.args.m.now in
    let k = c.in_ok-n.n in
    let same = ap (λ x. x * k / 16) c.scale-old.ensures in
    λ p t.
    let s = state m p t in
    ap on (c.drop_operands.ensures p t ∙ ap (λ x. with_stack x (drop 1 x.stack)) (c.set_scale.ensures p t) ∙ ap (λ x. with_stack (with_scale s x) (drop 1 (stack_of m))) same)
    ∙ sym (c.in_ok-n.ensures s _ ∙ cond-true _ _ _ (lt-ltb (m.drawing.graphics.scale * k / 16) 65536 (omega arith)))
