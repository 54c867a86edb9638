use Rattle.std.proofs.Common.{[], ◌∷◌, drop, Err, sym, ap, ◌∙◌}
use Rattle.std.proofs.lemmas.Bool.{lt-ltb, le-ltb}
use Rattle.std.proofs.lemmas.Result.{err_from_is_err_and}
use Rattle.path.specs.Path.{finished}
use Rattle.path.specs.Points.{point_of}
use Rattle.path.specs.Building.{rings_of, ring_of, points_of}
use Rattle.machine.specs.Machine.{on, ends, go_to, operate, with_stack}
use Rattle.machine.specs.Numbers.{fault_of}
use Rattle.machine.specs.Abstraction.{state, stack_of, after}
use Rattle.operators.proofs.PathLaws.{beside, go_to_far, go_to_full, go_to_fits}
use Rattle.operators.proofs.drawing.move_to.Goals as goal

pub returns-in_err-a : goal.returns-in_err-a
unfolding operate
returns-in_err-a g c =
    let m = c.args.m.now in
    let p = c.args.path.now in
    let q = err_from_is_err_and c.from_residual.result c.from_residual.ensures.1 in
    λ t. ap (λ r. after r m p t) (q.1 ∙ ap Err q.2) ∙ sym (c.in_err-a.ensures p t (go_to (state m p t)))

pub returns-in_default : goal.returns-in_default
unfolding operate
returns-in_default g c =
    let m = c.args.m.now in
    let p = c.args.path.now in
    λ t.
    let s = state m p t in
    go_to_far s c.in_ok-a.a c.in_ok-a.b (drop 2 (stack_of m)) c.in_default.ensures ∙ sym (c.in_ok-a.ensures p t (go_to s))

pub returns-in_err-begin_subpath : goal.returns-in_err-begin_subpath
unfolding operate
returns-in_err-begin_subpath g c =
    let m = c.args.m.now in
    let p = c.args.path.now in
    let q = c.begin_subpath.new.self in
    let drawn = c.in_err-begin_subpath.ensures in
    let why = err_from_is_err_and c.from_residual-in_err-begin_subpath.result c.from_residual-in_err-begin_subpath.ensures.1 in
    λ t.
    let s = state m p t in
    ap (λ r. after r m q t) (why.1 ∙ ap Err (why.2 ∙ ap fault_of drawn.value.0))
    ∙ ap (ends 7) (beside m p q t (rings_of p) (ring_of p) drawn.rings drawn.ring)
    ∙ go_to_full s c.in_ok-a.a c.in_ok-a.b (drop 2 (stack_of m)) c.in-Some.ensures.0 (sym (le-ltb (points_of p) 1024 drawn.value.1))
    ∙ sym (c.in_ok-a.ensures p t (go_to s))

pub returns : goal.returns
unfolding operate
returns g c =
    let m = c.args.m.now in
    let p = c.args.path.now in
    let q = c.begin_subpath.new.self in
    let drawn = c.in_ok-begin_subpath.ensures in
    let at = point_of c.in-Some.corner in
    let vs = drop 2 (stack_of m) in
    λ t.
    let s = state m p t in
    ap on (c.drop_operands.ensures q t ∙ ap (λ x. with_stack x vs) (beside m p q t (finished (rings_of p) (ring_of p)) (at ∷ []) drawn.rings drawn.ring))
    ∙ go_to_fits s c.in_ok-a.a c.in_ok-a.b vs at c.in-Some.ensures.0 (sym (lt-ltb (points_of p) 1024 drawn.value)) c.in-Some.ensures.1
    ∙ sym (c.in_ok-a.ensures p t (go_to s))
