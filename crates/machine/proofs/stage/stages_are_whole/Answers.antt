use Rattle.machine.proofs.Staged.{stages_are_whole}
use Rattle.machine.proofs.stage.stages_are_whole.Goals as goal

pub returns : goal.returns
returns c = stages_are_whole
