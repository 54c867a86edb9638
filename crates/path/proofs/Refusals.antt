-- Why a path refuses a point.
use Rattle.std.proofs.Common.{◌≡◌, ◌<◌, ◌≤◌, length, refl, arith}
use Rattle.path.specs.Building.{ring_of, points_of, NotAppended}
use Rattle.path.specs.declared.builder.Path.{Path}
use Rattle.path.specs.declared.builder.PathError.{PathError}
use Rattle.path.specs.declared.builder.PathError.TheVariants.{NoSubpath, TooManyPoints}

-- where a subpath is open, there is one reason alone
pub full_if_open : (e : PathError) (p : Path) → 0 < length (ring_of p) → NotAppended e p → (e ≡ TooManyPoints) × (1024 ≤ points_of p)
full_if_open NoSubpath p some none = let no : ⊥ = omega arith in absurd no
full_if_open TooManyPoints p some full = (refl, full.1)
