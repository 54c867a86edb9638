use Rattle.stack.specs.Contents.{top_down}
use Rattle.machine.specs.Abstraction.{frame_of}
use Rattle.machine.proofs.Looking.{top_is}
use Rattle.machine.proofs.state.Machine.top.Goals as goal

pub returns : goal.returns
returns g c = top_is frame_of (top_down c.args.self.now.frames.now) c.at.result c.at.ensures
