-- What a path that is being built holds: the subpaths before the open one, and the open one. Cited by its methods and by who holds one. Assumes nothing: these are definitions.
use Rattle.std.specs.Prelude.{◌≡◌, ℕ, ◌+◌, ◌*◌, ◌<◌, ◌≤◌, List, length, take, drop, slice_set}
use Rattle.path.specs.Path.{Ring, points}
use Rattle.path.specs.Stored.{points_in, rings_in}
use Rattle.path.specs.declared.builder.Path.{Path}
use Rattle.path.specs.declared.builder.PathError.{PathError}
use Rattle.path.specs.declared.builder.PathError.TheVariants.{NoSubpath, TooManyPoints}
use Rattle.path.specs.declared.builder.TheConstants.{MOST_POINTS}

abbrev pub rings_of : Path → List Ring
rings_of p = rings_in (take p.start p.words.now)

-- no point where none is open
abbrev pub ring_of : Path → Ring
ring_of p = points_in (take (2 * p.last) (drop (p.start + 1) p.words.now))

-- how many points there are
abbrev pub points_of : Path → ℕ
points_of p = points (rings_of p) + length (ring_of p)

-- the words with a subpath begun at a point behind the path, and with one more point of the open one; all others stay
abbrev pub words_begun : Path → ℕ → ℕ → List ℕ
words_begun p x y = slice_set (slice_set (slice_set p.words.now p.built.used 1) (p.built.used + 1) x) (p.built.used + 2) y

abbrev pub words_added : Path → ℕ → ℕ → List ℕ
words_added p x y = slice_set (slice_set (slice_set p.words.now p.built.used x) (p.built.used + 1) y) p.start (p.last + 1)

-- why one more point is refused: that no subpath is open comes first
abbrev pub NotAppended : PathError → Path → Type 0
NotAppended NoSubpath p = length (ring_of p) ≡ 0
NotAppended TooManyPoints p = (0 < length (ring_of p)) × (MOST_POINTS ≤ points_of p)
