-- What whoever drives a machine has seen: everything painted and every page shown, in order. Cited by the contract of a run. Assumes nothing: these are definitions.
use Rattle.std.specs.Prelude.{◌≡◌, ℕ, ◌≤◌, Bool, true, false, List, [], ◌∷◌, length}
use Rattle.path.specs.Path.{Paint}
use Rattle.tokens.specs.Stored.{operator_of}
use Rattle.machine.specs.Machine.{State, Went}
use Rattle.machine.specs.Laws.{state_of, end_of}
use Rattle.machine.specs.Numbers.{fault_number, unsupported}
use Rattle.machine.specs.Stage.{Outside}
use Rattle.machine.specs.Abstraction.{Past}
use Rattle.run.specs.declared.drive.Ending.{Ending}
use Rattle.run.specs.declared.drive.Ending.TheVariants.{Finished, Failed, Unsupported, Stopped}

-- a run that its sink has stopped has come to no end of its own
abbrev pub ending_number : Ending → ℕ
ending_number Finished = 0
ending_number (Failed f) = fault_number f
ending_number (Unsupported op) = unsupported (operator_of op)
ending_number Stopped = 0

abbrev pub is_stopped : Ending → Bool
is_stopped Finished = false
is_stopped (Failed f) = false
is_stopped (Unsupported op) = false
is_stopped Stopped = true

-- a run ends as `Unsupported` only at an operator outside of its stage
abbrev pub EndsOnlyOutside : (ℕ → Bool) → Ending → Type 0
EndsOnlyOutside can Finished = Unit {0}
EndsOnlyOutside can (Failed f) = Unit {0}
EndsOnlyOutside can (Unsupported op) = Outside can op
EndsOnlyOutside can Stopped = Unit {0}

-- where a run has come to, as what was painted and shown
abbrev pub past_of : Went → Past
past_of w = record { paints = (state_of w).paints; pages = (state_of w).pages }

-- the first one first
unfoldable pub all_painted : {V : Type 0} → (Paint → V → V) → List Paint → V → V
all_painted f [] v = v
all_painted f (p ∷ ps) v = all_painted f ps (f p v)

unfoldable pub all_shown : {V : Type 0} → (Paint → V → V) → (V → V) → List (List Paint) → V → V
all_shown f g [] v = v
all_shown f g (ps ∷ pss) v = all_shown f g pss (g (all_painted f ps v))

abbrev pub told : {V : Type 0} → (Paint → V → V) → (V → V) → Past → V → V
told f g t v = all_painted f t.paints (all_shown f g t.pages v)

-- A run, of a stage or of the whole machine, from a state under a count of steps, with a sink that had seen one thing before and has seen another after it: all steps are taken and it ends as
-- the written run does, or the sink wanted no more after so many of them; in each case it was told what the run up to there has painted and shown
pub record Driven (runs : ℕ → State → Went) {V : Type 0} (paint : Paint → V → V) (page : V → V) (wants : V → Bool) (r : Ending) (steps : ℕ) (s : State) (before after : V) : Type 0 where
  pub taken : ℕ
  pub within : taken ≤ steps
  pub seen : after ≡ told paint page (past_of (runs taken s)) before
  pub few : length (state_of (runs taken s)).pages ≤ taken
  pub whole : is_stopped r ≡ false → taken ≡ steps
  pub ended : is_stopped r ≡ false → ending_number r ≡ end_of (runs steps s)
  pub enough : is_stopped r ≡ true → wants after ≡ false
