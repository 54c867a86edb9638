use Rattle.machine.proofs.Showing.{shown_stays}
use Rattle.machine.proofs.laws.shown_stays.Goals as goal

pub returns : goal.returns
returns c = shown_stays
