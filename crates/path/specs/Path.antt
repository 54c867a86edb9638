-- Points, rings (closed subpaths) and things painted. Cited by the stored form of paths, by coverage and by the machine. Assumes nothing: these are definitions.
use Rattle.std.specs.Prelude.{ℕ, ◌+◌, List, [], ◌∷◌, ◌++◌, length}

-- a point of the page, in sixteenths of a dot from the left and from the top
pub record Point : Type 0 where
  pub x : ℕ
  pub y : ℕ

-- the points of a closed subpath; the last is joined to the first
abbrev pub Ring : Type 0
Ring = List Point

-- something painted: a path, the paths that it is clipped by, and a grey, 0 is black and 255 white
pub record Paint : Type 0 where
  pub path : List Ring
  pub clips : List (List Ring)
  pub grey : ℕ

-- how many points there are in all
unfoldable pub points : List Ring → ℕ
points [] = 0
points (r ∷ rs) = length r + points rs

-- the subpaths of a path of which the last is still open; none is open where that has no point
unfoldable pub finished : List Ring → Ring → List Ring
finished rs [] = rs
finished rs (p ∷ ps) = rs ++ ((p ∷ ps) ∷ [])
