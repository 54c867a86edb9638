-- The words that an iterator over stored words has still to read, and the points, subpaths and paths that it has still to give. Cited by the iterators and by who reads with one. Assumes nothing: these are definitions.
use Rattle.std.specs.Prelude.{ℕ, List}
use Rattle.path.specs.Path.{Ring}
use Rattle.path.specs.Stored.{points_in, rings_in, paths_in}
use Rattle.path.specs.declared.stored.Points.{Points}
use Rattle.path.specs.declared.stored.Subpaths.{Subpaths}
use Rattle.path.specs.declared.stored.Clips.{Clips}

-- the words that are still to be read
abbrev pub points_ahead : Points → List ℕ
points_ahead s = s.words.now

abbrev pub rings_ahead : Subpaths → List ℕ
rings_ahead s = s.words.now

abbrev pub paths_ahead : Clips → List ℕ
paths_ahead s = s.words.now

-- and what they are
abbrev pub points_left : Points → Ring
points_left s = points_in (points_ahead s)

abbrev pub rings_left : Subpaths → List Ring
rings_left s = rings_in (rings_ahead s)

abbrev pub paths_left : Clips → List (List Ring)
paths_left s = paths_in (paths_ahead s)
