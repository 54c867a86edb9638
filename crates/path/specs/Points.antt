-- The point that two numbers are, and that a point of the code is. Cited by who reads points, and by what builds a path. Assumes nothing: these are definitions.
use Rattle.std.specs.Prelude.{ℕ}
use Rattle.path.specs.Path.{Point}
use Rattle.path.specs.declared.corner.Corner as code

abbrev pub point : ℕ → ℕ → Point
point a b = record { x = a; y = b }

abbrev pub point_of : code.Corner → Point
point_of p = point p.x p.y
