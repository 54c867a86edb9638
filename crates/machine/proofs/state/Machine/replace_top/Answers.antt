use Rattle.std.proofs.Common.{map, ap, ◌∙◌}
use Rattle.stack.specs.Contents.{top_down}
use Rattle.machine.specs.Machine.{with_frames}
use Rattle.machine.specs.Abstraction.{state, frame_of}
use Rattle.machine.proofs.Looking.{topped_is}
use Rattle.machine.proofs.state.Machine.replace_top.Goals as goal

pub returns : goal.returns
returns g c =
    let m = c.args.self.now in
    λ p t. ap (with_frames (state m p t)) (ap (map frame_of) c.set.ensures ∙ topped_is (top_down m.frames.now) c.args.f)
