use Rattle.raster.proofs.Painting.{clip_narrows}
use Rattle.raster.proofs.laws.clip_narrows.Goals as goal

pub returns : goal.returns
returns c = clip_narrows
