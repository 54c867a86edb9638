-- Between which levels the points of a path lie. Cited by what builds a path, by what reads one and by what skips rows. Assumes nothing: these are definitions.
use Rattle.std.specs.Prelude.{◌≡◌, ℕ, min, max, List, fold}
use Rattle.path.specs.Path.{Point, Ring}
use Rattle.path.specs.declared.extent.Extent.{Extent}

-- the least y of t and a ring's points, and the greatest
abbrev pub ring_top : ℕ → Ring → ℕ
ring_top t ring = fold (λ m (p : Point). min m p.y) t ring

abbrev pub ring_bottom : ℕ → Ring → ℕ
ring_bottom t ring = fold (λ m (p : Point). max m p.y) t ring

-- the same of all rings of a path
abbrev pub path_top : ℕ → List Ring → ℕ
path_top t path = fold ring_top t path

abbrev pub path_bottom : ℕ → List Ring → ℕ
path_bottom t path = fold ring_bottom t path

-- the extent is the path's; no point is as low as 2 ^ 24, and a path with no point reaches nothing
pub record ExtentOf (e : Extent) (path : List Ring) : Type 0 where
  pub top : e.top ≡ path_top 16777216 path
  pub bottom : e.bottom ≡ path_bottom 0 path
