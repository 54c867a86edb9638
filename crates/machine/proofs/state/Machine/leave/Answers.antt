use Rattle.std.proofs.Common.{map, ap, ◌∙◌}
use Rattle.stack.specs.Contents.{top_down}
use Rattle.machine.specs.Machine.{with_frames}
use Rattle.machine.specs.Abstraction.{state, frame_of}
use Rattle.machine.proofs.Looking.{tail_is}
use Rattle.machine.proofs.state.Machine.leave.Goals as goal

pub returns : goal.returns
returns g c =
    let m = c.args.self.now in
    λ p t. ap (with_frames (state m p t)) (ap (map frame_of) c.drop_top.ensures ∙ tail_is frame_of (top_down m.frames.now))
