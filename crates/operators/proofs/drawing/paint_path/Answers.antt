use Rattle.std.proofs.Common.{[], ◌∷◌, ◌++◌, take, ap, ◌∙◌}
use Rattle.path.specs.Stored.{rings_in}
use Rattle.machine.specs.Machine.{on, operate, with_paints, with_path}
use Rattle.machine.specs.Abstraction.{state, with_painted, thing_of}
use Rattle.operators.proofs.PathLaws.{beside}
use Rattle.operators.proofs.drawing.paint_path.Goals as goal

pub returns : goal.returns
unfolding operate
returns g c =
    let p = c.args.path.now in
    let q = c.clear.new.self in
    let n = c.used-n.result in
    let m = c.args._m.now in
    λ t.
    ap on (beside m p q (with_painted t (thing_of m q n)) [] [] c.clear.ensures.rings c.clear.ensures.ring
    ∙ ap (λ rs. with_path (with_paints (state m p t) (t.paints ++ (record { path = rs; clips = (state m p t).manner.clips; grey = m.drawing.graphics.grey } ∷ [])) t.pages) [] []) (ap (λ ws. rings_in (take n ws)) c.clear.ensures.same ∙ c.used-n.ensures.value))
