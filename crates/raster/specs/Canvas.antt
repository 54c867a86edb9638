-- What painting one thing onto a canvas comes to: its band in its bytes. Cited by the contracts of a canvas. Assumes nothing: these are definitions.
use Rattle.path.specs.Path.{Paint}
use Rattle.path.specs.declared.extent.Extent.{Extent}
use Rattle.raster.specs.Band.{PaintedBand, PaintedWithin}
use Rattle.raster.specs.declared.band.Canvas.{Canvas}

abbrev pub Painted : Canvas → Canvas → Paint → Type 0
Painted was new t = PaintedBand was.bytes.now new.bytes.now was.band.width was.band.first was.band.count t

abbrev pub PaintedIn : Canvas → Canvas → Paint → Extent → Type 0
PaintedIn was new t e = PaintedWithin was.bytes.now new.bytes.now was.band.width was.band.first was.band.count t e
