use Rattle.raster.proofs.Painting.{may_be_exchanged}
use Rattle.raster.proofs.laws.may_be_exchanged.Goals as goal

pub returns : goal.returns
returns c = may_be_exchanged
