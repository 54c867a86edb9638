use Rattle.std.proofs.Common.{◌≡◌, ◌+◌, ◌-◌, ◌*◌, cond, length, take, drop, ◌∙◌, arith, length-drop, length-take}
use Rattle.bits.proofs.PartLaws.{put_length}
use Rattle.raster.specs.Coverage.{covers}
use Rattle.raster.specs.Thing.{painted_by}
use Rattle.raster.proofs.BandLaws.{row_ends, banded_more}
use Rattle.raster.proofs.band.Canvas.paint_rows.Goals as goal

pub loop-r-preserved : goal.loop-r-preserved
loop-r-preserved c =
    let inv = c.loop-r.invariant in
    let band = c.args.self.now.band in
    let fits = c.args.self.now.fits in
    let t = painted_by c.args.thing in
    let end = row_ends c.loop-r.r band.count band.width (omega arith) in
    let b =
    banded_more (λ q x v. cond (covers t x (band.first + q)) t.grey v) c.args.self.now.bytes.now c.loop-r.self.bytes.now c.paint_row.new.dots band.width c.args.rows.start c.loop-r.r (omega arith)
    (omega arith) (inv.0, inv.1, inv.2) c.paint_row.auto.dots c.paint_row.ensures in
    let at = c.loop-r.r * band.width in
    let mid : length (take (at + band.width - at) (drop at c.loop-r.self.bytes.now)) ≡ at + band.width - at = simp (length-take, length-drop) (omega arith) in
    (b.0, b.1, b.2, put_length at (at + band.width - at) c.loop-r.self.bytes.now c.paint_row.new.dots (omega arith) (c.paint_row.auto.dots ∙ mid) ∙ inv.3, inv.4, inv.5)
