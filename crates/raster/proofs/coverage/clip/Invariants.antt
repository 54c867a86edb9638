use Rattle.std.proofs.Common.{◌≡◌, ℕ, ◌+◌, ◌*◌, ◌&&◌}
use Rattle.bits.specs.Row.{bit_at}
use Rattle.path.specs.Reading.{paths_left}
use Rattle.raster.specs.Coverage.{in_all}
use Rattle.raster.proofs.coverage.clip.Given as goal

-- the clips that are left cut what all clips cut
abbrev pub invariant-loop-path : goal.invariant-loop-path
invariant-loop-path l =
    ((x : ℕ) →
    (bit_at l.row.words x && in_all (paths_left l.path-iterator) (16 * x + 8) l.level) ≡ (bit_at l.initial.row.words x && in_all (paths_left l.initial.path-iterator) (16 * x + 8) l.level))
    × (l.row.low ≡ l.span.start)
    × (l.row.high ≡ l.span.end)
