use Rattle.std.proofs.Common.{[], sym, ap, ◌∙◌}
use Rattle.std.proofs.lemmas.Bool.{cond-true, cond-false}
use Rattle.machine.specs.Machine.{on, ends, with_path, operate}
use Rattle.operators.proofs.PathLaws.{beside}
use Rattle.operators.proofs.graphics.clip.Goals as goal

pub returns-in_default : goal.returns-in_default
unfolding operate
returns-in_default g c =
    let refused = c.in_default.ensures.err in
    let p = c.args.path.now in
    λ t. ap (ends 7) (refused.1 p t) ∙ sym (cond-false _ _ _ refused.0)

pub returns : goal.returns
unfolding operate
returns g c =
    let clipped = c.in-Ok.ensures.ok in
    let p = c.args.path.now in
    let q = c.clear.new.self in
    λ t.
    ap on (beside c.append_clip.new.self p q t [] [] c.clear.ensures.rings c.clear.ensures.ring ∙ ap (λ s. with_path s [] []) (clipped.1 p t)) ∙ sym (cond-true _ _ _ clipped.0)
