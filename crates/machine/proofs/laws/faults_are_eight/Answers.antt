use Rattle.machine.proofs.Ending.{faults_are_eight}
use Rattle.machine.proofs.laws.faults_are_eight.Goals as goal

pub returns : goal.returns
returns c = faults_are_eight
