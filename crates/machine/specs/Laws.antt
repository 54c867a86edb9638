-- Laws of runs, each a statement whose proof is owed where a function's contract names it. Assumes nothing: these are definitions.
use Rattle.std.specs.Prelude.{◌≡◌, ℕ, ◌+◌, ◌<◌, ◌≤◌, List, ◌++◌}
use Rattle.path.specs.Path.{Paint}
use Rattle.machine.specs.Machine.{State, Went, on, ends, run}

unfoldable pub state_of : Went → State
state_of (on s) = s
state_of (ends e s) = s

unfoldable pub end_of : Went → ℕ
end_of (on s) = 0
end_of (ends e s) = e

-- with more steps a job that came to its end by itself or by a fault comes to the same
abbrev pub MoreSteps : Type 0
MoreSteps = (s : State) (n m : ℕ) → end_of (run n s) < 8 → run (n + m) s ≡ run n s

-- the whole machine ends by itself, by one of seven faults, or with 8: never with more
abbrev pub FaultsAreEight : Type 0
FaultsAreEight = (n : ℕ) (s : State) → end_of (run n s) ≤ 8

-- a page shown stays as it is, whatever the job does after
abbrev pub begins_with : List (List Paint) → List (List Paint) → Type 0
begins_with whole part = (rest : List (List Paint)) × (whole ≡ part ++ rest)

abbrev pub ShownStays : Type 0
ShownStays = (s : State) (n : ℕ) → begins_with (state_of (run n s)).pages s.pages
