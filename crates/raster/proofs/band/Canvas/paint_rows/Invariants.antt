use Rattle.std.proofs.Common.{◌≡◌, ℕ, ◌+◌, ◌*◌, ◌<◌, ◌≤◌, cond, length, get_or}
use Rattle.raster.specs.Coverage.{covers}
use Rattle.raster.specs.Thing.{painted_by}
use Rattle.raster.proofs.band.Canvas.paint_rows.Given as goal

-- rows before r are painted, bytes from row r on and before the first row are as they were
abbrev pub invariant-loop-r : goal.invariant-loop-r
invariant-loop-r l =
    ((q x : ℕ) → l.fn.rows.start ≤ q → q < l.r → x < l.width →
    get_or l.self.bytes.now (q * l.width + x) 0 ≡ cond (covers (painted_by l.thing) x (l.first + q)) l.thing.grey (get_or l.initial.self.bytes.now (q * l.width + x) 0))
    × ((i : ℕ) → i < l.fn.rows.start * l.width → get_or l.self.bytes.now i 0 ≡ get_or l.initial.self.bytes.now i 0)
    × ((i : ℕ) → l.r * l.width ≤ i → get_or l.self.bytes.now i 0 ≡ get_or l.initial.self.bytes.now i 0)
    × (length l.self.bytes.now ≡ length l.initial.self.bytes.now)
    × (l.self.band ≡ l.initial.self.band)
    × (l.self.bytes.ghost_name ≡ l.initial.self.bytes.ghost_name)
