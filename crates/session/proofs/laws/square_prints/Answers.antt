use Rattle.session.proofs.Running.{both_print}
use Rattle.session.proofs.laws.square_prints.Goals as goal

pub returns : goal.returns
returns c = both_print.1
