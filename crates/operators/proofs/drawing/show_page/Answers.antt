use Rattle.std.proofs.Common.{rules}
use Rattle.machine.specs.Machine.{operate}
use Rattle.operators.proofs.PathLaws.{beside}
use Rattle.operators.proofs.drawing.show_page.Goals as goal

pub returns : goal.returns
unfolding operate
returns g c = search (rules, beside)
