use Rattle.raster.proofs.Rings.{any_beginning}
use Rattle.raster.proofs.laws.any_beginning.Goals as goal

pub returns : goal.returns
returns c = any_beginning
