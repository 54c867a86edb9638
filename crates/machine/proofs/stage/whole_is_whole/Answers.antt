use Rattle.machine.proofs.Staged.{step_is_whole, whole_is_whole}
use Rattle.machine.proofs.stage.whole_is_whole.Goals as goal

pub returns : goal.returns
returns c = record { runs = whole_is_whole; steps = step_is_whole }
