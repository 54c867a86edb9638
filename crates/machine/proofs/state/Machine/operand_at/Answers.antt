use Rattle.stack.specs.Contents.{top_down}
use Rattle.machine.specs.Abstraction.{value_of}
use Rattle.machine.proofs.Looking.{looked}
use Rattle.machine.proofs.state.Machine.operand_at.Goals as goal

pub returns : goal.returns
returns g c = looked value_of (top_down c.args.self.now.values.now) c.args.below c.at.result c.at.ensures
