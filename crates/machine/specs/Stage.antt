-- The written machine as far as a stage does its operators: at another one it ends with 9 and the operator's number, its token taken. On tokens without such operators it is the whole machine (StagesAreWhole). Cited by the contracts of steps and runs. Assumes nothing: these are definitions.
use Rattle.std.specs.Prelude.{◌≡◌, ℕ, zero, suc, Bool, false, cond, List, [], ◌∷◌}
use Rattle.tokens.specs.Token.{Token, number, does, name, quoted, body, Tokens, none, more, Operator, number_of, AllInRange}
use Rattle.tokens.specs.Stored.{operator_of}
use Rattle.tokens.specs.Stage.{stage, whole}
use Rattle.tokens.specs.declared.operator.Operator as code_operator
use Rattle.machine.specs.Machine.{Frame, State, Went, ends, with_frames, operate, run_token, advance, step, go_on, at_end, run, begin}
use Rattle.machine.specs.Numbers.{unsupported}

-- what a stage can do, by the numbers of operators
module _ (can : ℕ → Bool) where
  unfoldable pub operate_of : State → Operator → Went
  operate_of s k = cond (can (number_of k)) (operate s k) (ends (unsupported k) s)

  unfoldable pub run_token_of : State → Token → Went
  run_token_of s (number n) = run_token s (number n)
  run_token_of s (does k) = operate_of s k
  run_token_of s (name k) = run_token s (name k)
  run_token_of s (quoted k) = run_token s (quoted k)
  run_token_of s (body ts) = run_token s (body ts)

  unfoldable pub advance_of : State → Frame → List Frame → Tokens → Went
  advance_of s f fs none = advance s none f.again f.whole fs
  advance_of s f fs (more t ts) = run_token_of (with_frames s (record { rest = ts; again = f.again; whole = f.whole } ∷ fs)) t

  unfoldable pub step_by_frame : State → List Frame → Went
  step_by_frame s [] = ends 0 s
  step_by_frame s (f ∷ fs) = advance_of s f fs f.rest

  abbrev pub step_of : State → Went
  step_of s = step_by_frame s s.frames

  unfoldable pub run_of : ℕ → State → Went
  run_of zero s = at_end s.frames s
  run_of (suc n) s = go_on (step_of s) (λ t. run_of n t)

-- on tokens of a stage, in bodies too, a run of it is a run of the whole machine
abbrev pub StagesAreWhole : Type 0
StagesAreWhole = (can : ℕ → Bool) (ts : Tokens) (n : ℕ) → AllInRange can ts → run_of can n (begin ts) ≡ run n (begin ts)

-- the stage of all operators is the whole machine, from any state
abbrev pub WholeIsWhole : Type 0
WholeIsWhole = (n : ℕ) (s : State) → run_of whole n s ≡ run n s

-- and each step of it is a step of the whole machine
abbrev pub StepIsWhole : Type 0
StepIsWhole = (s : State) → step_of whole s ≡ step s

-- an operator outside of a stage: one that it can't do
abbrev pub Outside : (ℕ → Bool) → code_operator.Operator → Type 0
Outside can op = can (number_of (operator_of op)) ≡ false

-- none is outside of the stage of all operators
abbrev pub NoneOutside : Type 0
NoneOutside = (op : code_operator.Operator) → ¬ Outside whole op

-- the stage that was first
abbrev pub step_in_stage : State → Went
step_in_stage s = step_of stage s

abbrev pub run_in_stage : ℕ → State → Went
run_in_stage n s = run_of stage n s

abbrev pub StageIsWhole : Type 0
StageIsWhole = (ts : Tokens) (n : ℕ) → AllInRange stage ts → run_in_stage n (begin ts) ≡ run n (begin ts)
