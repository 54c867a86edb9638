use Rattle.raster.proofs.Moving.{moves_whole}
use Rattle.raster.proofs.laws.moves_whole.Goals as goal

pub returns : goal.returns
returns c = moves_whole
