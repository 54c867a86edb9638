use Rattle.std.proofs.Common.{[], ◌∷◌, ◌++◌, length, drop, Err, sym, ap, ◌∙◌}
use Rattle.std.proofs.lemmas.Bool.{lt-ltb, le-ltb, ltb-true}
use Rattle.std.proofs.lemmas.Result.{err_from_is_err_and}
use Rattle.path.specs.Points.{point_of}
use Rattle.path.specs.Building.{rings_of, ring_of, points_of}
use Rattle.path.proofs.Refusals.{full_if_open}
use Rattle.machine.specs.Machine.{on, ends, line_to, operate, with_stack}
use Rattle.machine.specs.Numbers.{fault_of}
use Rattle.machine.specs.Abstraction.{state, stack_of, after}
use Rattle.operators.proofs.PathLaws.{beside, line_to_none, line_to_far, line_to_full, line_to_fits}
use Rattle.operators.proofs.drawing.line_to.Goals as goal

pub returns-in_err-a : goal.returns-in_err-a
unfolding operate
returns-in_err-a g c =
    let m = c.args.m.now in
    let p = c.args.path.now in
    let q = err_from_is_err_and c.from_residual.result c.from_residual.ensures.1 in
    λ t. ap (λ r. after r m p t) (q.1 ∙ ap Err q.2) ∙ sym (c.in_err-a.ensures p t (λ a b vs. line_to (state m p t) a b vs (ring_of p)))

pub returns-then-not-is_open : goal.returns-then-not-is_open
unfolding operate
returns-then-not-is_open g c =
    let m = c.args.m.now in
    let p = c.args.path.now in
    λ t.
    let s = state m p t in
    line_to_none s c.in_ok-a.a c.in_ok-a.b (drop 2 (stack_of m)) (ring_of p) c.if-not-is_open.ensures ∙ sym (c.in_ok-a.ensures p t (λ a b vs. line_to s a b vs (ring_of p)))

pub returns-in_default : goal.returns-in_default
unfolding operate
returns-in_default g c =
    let m = c.args.m.now in
    let p = c.args.path.now in
    λ t.
    let s = state m p t in
    line_to_far s c.in_ok-a.a c.in_ok-a.b (drop 2 (stack_of m)) (ring_of p) c.if-not-is_open.ensures c.in_default.ensures
    ∙ sym (c.in_ok-a.ensures p t (λ a b vs. line_to s a b vs (ring_of p)))

pub returns-in_err-append_point : goal.returns-in_err-append_point
unfolding operate
returns-in_err-append_point g c =
    let m = c.args.m.now in
    let p = c.args.path.now in
    let q = c.append_point.new.self in
    let drawn = c.in_err-append_point.ensures in
    let open-there = c.if-not-is_open.ensures in
    let full = full_if_open _ p (ltb-true 0 (length (ring_of p)) (sym open-there)) drawn.value in
    let why = err_from_is_err_and c.from_residual-in_err-append_point.result c.from_residual-in_err-append_point.ensures.1 in
    λ t.
    let s = state m p t in
    ap (λ r. after r m q t) (why.1 ∙ ap Err (why.2 ∙ ap fault_of full.0))
    ∙ ap (ends 7) (beside m p q t (rings_of p) (ring_of p) drawn.rings drawn.ring)
    ∙ line_to_full s c.in_ok-a.a c.in_ok-a.b (drop 2 (stack_of m)) (ring_of p) open-there c.in-Some.ensures.0 (le-ltb (points_of p) 1024 full.1)
    ∙ sym (c.in_ok-a.ensures p t (λ a b vs. line_to s a b vs (ring_of p)))

pub returns : goal.returns
unfolding operate
returns g c =
    let m = c.args.m.now in
    let p = c.args.path.now in
    let q = c.append_point.new.self in
    let drawn = c.in_ok-append_point.ensures in
    let open-there = c.if-not-is_open.ensures in
    let room = lt-ltb (points_of p) 1024 drawn.value.1 in
    let at = point_of c.in-Some.corner in
    let vs = drop 2 (stack_of m) in
    λ t.
    let s = state m p t in
    ap on (c.drop_operands.ensures q t ∙ ap (λ x. with_stack x vs) (beside m p q t (rings_of p) (ring_of p ++ (at ∷ [])) drawn.rings drawn.ring))
    ∙ line_to_fits s c.in_ok-a.a c.in_ok-a.b vs (ring_of p) at open-there c.in-Some.ensures.0 room c.in-Some.ensures.1
    ∙ sym (c.in_ok-a.ensures p t (λ a b vs. line_to s a b vs (ring_of p)))
