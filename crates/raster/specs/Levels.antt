-- Between which levels all clips of a thing have points. Cited by what skips rows. Assumes nothing: these are definitions.
use Rattle.std.specs.Prelude.{ℕ, min, max, List, fold}
use Rattle.path.specs.Path.{Ring}
use Rattle.path.specs.Extent.{path_top, path_bottom}

-- the levels from t that every clip reaches; no point is as low as 2 ^ 24
abbrev pub clips_top : ℕ → List (List Ring) → ℕ
clips_top t clips = fold (λ m clip. max m (path_top 16777216 clip)) t clips

abbrev pub clips_bottom : ℕ → List (List Ring) → ℕ
clips_bottom t clips = fold (λ m clip. min m (path_bottom 0 clip)) t clips
