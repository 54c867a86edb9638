-- Which operators this stage of the printer can do: reading refuses a text with any other. Cited by the contracts of reading and of the machine. Assumes nothing: these are definitions.
use Rattle.std.specs.Prelude.{ℕ, Bool, true, ◌&&◌, ◌||◌, ◌==◌, nat_le}

-- by its number: moves, lines, fills; greys; shows
abbrev pub thin : ℕ → Bool
thin k = (nat_le 11 k && nat_le k 13) || (k == 15 || k == 20)

-- every operator
abbrev pub whole : ℕ → Bool
whole k = true

-- the stage that is proved now; a wider one changes this line and the code's
abbrev pub stage : ℕ → Bool
stage k = thin k
