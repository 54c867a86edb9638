use Rattle.raster.proofs.Rings.{either_way}
use Rattle.raster.proofs.laws.either_way.Goals as goal

pub returns : goal.returns
returns c = either_way
