use Rattle.session.proofs.Rightness.{right}
use Rattle.session.proofs.laws.printer_is_right.Goals as goal

pub returns : goal.returns
returns c = right
