use Rattle.std.proofs.Common.{◌≡◌, ℕ, suc, ◌+◌, ◌*◌, ◌<◌, ◌≤◌}
use Rattle.bits.specs.Row.{bit_at, odd_below}
use Rattle.path.specs.Points.{point_of}
use Rattle.path.specs.Reading.{points_left}
use Rattle.raster.specs.Coverage.{differ, along}
use Rattle.raster.proofs.crossing.cross_ring.Given as goal

-- the edges that are left give what the whole ring gives
abbrev pub invariant-loop-next : goal.invariant-loop-next
invariant-loop-next l =
    ((x : ℕ) → l.left ≤ x → x < 64 * l.initial.row.len →
    differ (along (point_of l.first) (points_left l.next-iterator) (point_of l.last) (16 * x + 8) l.level) (odd_below (bit_at l.row.words) (suc x))
    ≡ differ (along (point_of l.first) (points_left l.initial.next-iterator) (point_of l.first) (16 * x + 8) l.level) (odd_below (bit_at l.initial.row.words) (suc x)))
    × (l.row.len ≡ l.initial.row.len)
