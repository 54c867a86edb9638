-- Laws of runs, each a statement whose proof is owed where a function's contract names it. Assumes nothing: these are definitions.
use Rattle.std.specs.Prelude.{◌≡◌, ℕ, ◌≤◌, Bool, true, false, List, length}
use Rattle.path.specs.Path.{Paint}
use Rattle.tokens.specs.Token.{Tokens}
use Rattle.tokens.specs.Stored.{all_stored, decode}
use Rattle.lexer.specs.Reading.{tokens, read}
use Rattle.machine.specs.Machine.{State, Went, run, begin}
use Rattle.machine.specs.Laws.{state_of, end_of}
use Rattle.machine.specs.Stage.{run_of}
use Rattle.run.specs.declared.drive.Ending.{Ending}
use Rattle.run.specs.Sinks.{ending_number, is_stopped, past_of, told, Driven}

-- a text that a stage does not refuse runs, stored, as its tokens do on the whole written machine: by the stage, and by the whole machine too
abbrev pub TextRunsWhole : (ℕ → Bool) → Type 0
TextRunsWhole can =
    (bs : List ℕ) (ts : Tokens) (n : ℕ) → read can bs ≡ tokens ts →
    (run_of can n (begin (decode (all_stored ts))) ≡ run n (begin ts)) × (run n (begin (decode (all_stored ts))) ≡ run n (begin ts))

-- a sink that still wants more after a run, as one that always does, has stopped none and was told all of it: it ended as the written run does, and has shown no more pages than it had steps
abbrev pub ToldToTheEnd : {V : Type 0} → (Paint → V → V) → (V → V) → Type 0
ToldToTheEnd {V} paint page =
    (wants : V → Bool) (runs : ℕ → State → Went) (r : Ending) (n : ℕ) (s : State) (v w : V) → Driven runs paint page wants r n s v w → wants w ≡ true →
    (is_stopped r ≡ false) × (ending_number r ≡ end_of (runs n s)) × (w ≡ told paint page (past_of (runs n s)) v) × (length (state_of (runs n s)).pages ≤ n)
