use Rattle.tokens.specs.Stage.{stage}
use Rattle.machine.proofs.Staged.{stages_are_whole}
use Rattle.machine.proofs.stage.stage_is_whole.Goals as goal

pub returns : goal.returns
returns c = stages_are_whole stage
