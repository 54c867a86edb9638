-- What bands are to a page, a statement whose proof is owed where a function's contract names it. Assumes nothing: these are definitions.
use Rattle.std.specs.Prelude.{◌≡◌, ℕ, ◌+◌, List, [], ◌∷◌, ◌++◌, sum}
use Rattle.path.specs.Path.{Paint}
use Rattle.raster.specs.Coverage.{rows}

-- bands of these heights one under the other, from row y on
unfoldable pub banded : List Paint → ℕ → ℕ → List ℕ → List ℕ
banded ps w y [] = []
banded ps w y (n ∷ ns) = rows ps w y n ++ banded ps w (y + n) ns

-- however a page is cut into bands, they make that page
abbrev pub BandsMakePages : Type 0
BandsMakePages = (ps : List Paint) (w y : ℕ) (heights : List ℕ) → banded ps w y heights ≡ rows ps w y (sum heights)
