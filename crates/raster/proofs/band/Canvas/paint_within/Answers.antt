use Rattle.std.proofs.Common.{◌≡◌, ℕ, ◌+◌, ◌-◌, ◌*◌, ◌/◌, ◌<◌, ◌≤◌, min, cond, List, get_or, refl, arith}
use Rattle.path.specs.Stored.{paths_in}
use Rattle.path.specs.declared.extent.Extent.{Extent}
use Rattle.raster.specs.Band.{PaintedWithin}
use Rattle.raster.specs.Coverage.{covers}
use Rattle.raster.specs.Levels.{clips_top, clips_bottom}
use Rattle.raster.specs.Thing.{thing, painted_by}
use Rattle.raster.proofs.WithinLaws.{le_clips_top, clips_bottom_le, misses_above, misses_below, misses_over, misses_under, band_within, own_painted}
use Rattle.raster.proofs.band.Canvas.paint_within.Goals as goal

-- the rows that the clips leave of the extent are painted
narrow : (was bytes path clips : List ℕ) (grey w y n start end top bottom : ℕ) (e : Extent) →
    ((r x : ℕ) → start ≤ r → r < end → x < w → get_or bytes (r * w + x) 0 ≡ cond (covers (thing path clips grey) x (y + r)) grey (get_or was (r * w + x) 0)) →
    ((i : ℕ) → i < start * w → get_or bytes i 0 ≡ get_or was i 0) → ((i : ℕ) → end * w ≤ i → get_or bytes i 0 ≡ get_or was i 0) →
    top ≡ clips_top e.top (paths_in clips) → bottom ≡ clips_bottom e.bottom (paths_in clips) → start ≡ min ((top + 7) / 16 - y) n → end ≡ min ((bottom + 7) / 16 - y) n →
    PaintedWithin was bytes w y n (thing path clips grey) e
narrow was bytes path clips grey w y n start end top bottom e value before rest et eb es ee =
    let t = thing path clips grey in
    let lower = le_clips_top (paths_in clips) e.top in
    let higher = clips_bottom_le (paths_in clips) e.bottom in
    band_within was bytes w y n start end t e value before rest (omega arith) (λ r x lt. misses_over e t x (y + r) (omega arith)) (λ r x le lt. misses_under e t x (y + r) (omega arith)) (λ r from less. (omega arith, omega arith))

-- no row of the band lies within the extent
pub returns-then-reached : goal.returns-then-reached
returns-then-reached c =
    let b = c.args.self.now.band in
    let was = c.args.self.now.bytes.now in
    let t = painted_by c.args.thing in
    let e = c.args.extent in
    let rows = c.rows_within-reached.result in
    let start = c.rows_within-reached.ensures.start in
    let end = c.rows_within-reached.ensures.end in
    let within =
    band_within was was b.width b.first b.count rows.start rows.end t e (λ r x from less h. let no : ⊥ = omega arith in absurd no) (λ i lt. refl) (λ i le. refl) (omega arith)
    (λ r x lt. misses_above e t x (b.first + r) (omega arith)) (λ r x le lt. misses_below e t x (b.first + r) (omega arith)) (λ r from less. let no : ⊥ = omega arith in absurd no) in
    record { within = within; after = λ own. own_painted was was b.width b.first b.count t e refl c.args.self.now.fits within own; len = refl; band = refl; lent = refl }

-- or none lies within what the clips leave of it
pub returns-else-rows : goal.returns-else-rows
returns-else-rows c =
    let b = c.args.self.now.band in
    let was = c.args.self.now.bytes.now in
    let t = c.args.thing in
    let e = c.args.extent in
    let rows = c.rows_within-rows.result in
    let within =
    narrow was was t.path.now t.clips.now t.grey b.width b.first b.count rows.start rows.end c.narrowed.result.top c.narrowed.result.bottom e (λ r x from less h. let no : ⊥ = omega arith in absurd no) (λ i lt. refl) (λ i le. refl)
    c.narrowed.ensures.top c.narrowed.ensures.bottom c.rows_within-rows.ensures.start c.rows_within-rows.ensures.end in
    record { within = within; after = λ own. own_painted was was b.width b.first b.count (painted_by t) e refl c.args.self.now.fits within own; len = refl; band = refl; lent = refl }

pub returns-then-rows : goal.returns-then-rows
returns-then-rows c =
    let b = c.args.self.now.band in
    let was = c.args.self.now.bytes.now in
    let new = c.paint_rows.new.self.bytes.now in
    let t = c.args.thing in
    let e = c.args.extent in
    let rows = c.rows_within-rows.result in
    let painted = c.paint_rows.ensures in
    let within =
    narrow was new t.path.now t.clips.now t.grey b.width b.first b.count rows.start rows.end c.narrowed.result.top c.narrowed.result.bottom e painted.value painted.before painted.rest
    c.narrowed.ensures.top c.narrowed.ensures.bottom c.rows_within-rows.ensures.start c.rows_within-rows.ensures.end in
    record { within = within; after = λ own. own_painted was new b.width b.first b.count (painted_by t) e painted.len c.args.self.now.fits within own; len = painted.len; band = painted.band; lent = painted.lent }
