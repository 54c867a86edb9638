use Rattle.machine.proofs.Running.{more_steps}
use Rattle.machine.proofs.laws.more_steps.Goals as goal

pub returns : goal.returns
returns c = more_steps
