use Rattle.raster.proofs.Rings.{shared_way}
use Rattle.raster.proofs.laws.shared_way.Goals as goal

pub returns : goal.returns
returns c = shared_way
