-- A row of dots as characters. Cited by the contracts of `mark` and `push_row`. Assumes nothing: these are definitions.
use Rattle.std.specs.Prelude.{ℕ, cond, List, [], ◌∷◌, ◌++◌, map, ◌==◌}

-- `#` for black, `.` for white, `+` for any other grey
abbrev pub mark_of : ℕ → ℕ
mark_of g = cond (g == 0) 35 (cond (g == 255) 46 43)

-- a row, and an end of line
abbrev pub marks : List ℕ → List ℕ
marks row = map mark_of row ++ (10 ∷ [])
