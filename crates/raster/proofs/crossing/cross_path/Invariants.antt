use Rattle.std.proofs.Common.{◌≡◌, ℕ, suc, ◌+◌, ◌*◌, ◌<◌, ◌≤◌}
use Rattle.bits.specs.Row.{bit_at, odd_below}
use Rattle.path.specs.Reading.{rings_left}
use Rattle.raster.specs.Coverage.{differ, in_path}
use Rattle.raster.proofs.crossing.cross_path.Given as goal

-- the subpaths that are left give what the whole path gives
abbrev pub invariant-loop-points : goal.invariant-loop-points
invariant-loop-points l =
    ((x : ℕ) → l.left ≤ x → x < 64 * l.initial.row.len →
    differ (in_path (rings_left l.points-iterator) (16 * x + 8) l.level) (odd_below (bit_at l.row.words) (suc x))
    ≡ differ (in_path (rings_left l.initial.points-iterator) (16 * x + 8) l.level) (odd_below (bit_at l.initial.row.words) (suc x)))
    × (l.row.len ≡ l.initial.row.len)
