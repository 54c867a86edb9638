use Rattle.std.proofs.Common.{◌≡◌, ℕ, ◌+◌, ◌≤◌, length}
use Rattle.machine.specs.Stage.{run_of}
use Rattle.machine.specs.Abstraction.{Past, no_past, state}
use Rattle.run.specs.Sinks.{told}
use Rattle.run.proofs.drive.drive.Given as goal

-- something was painted and shown: however many steps are run from here, they come to so many more of the whole run, and the sink has seen it
abbrev pub invariant-loop-i : goal.invariant-loop-i
invariant-loop-i g l =
    (t : Past)
    × ((k : ℕ) → run_of g.S.Stage.can k (state l.m l.path t) ≡ run_of g.S.Stage.can (l.i + k) (state l.initial.m l.initial.path no_past))
    × (g.E.Sink.view l.sink ≡ told g.E.Sink.paint g.E.Sink.page t (g.E.Sink.view l.initial.sink))
    × (length t.pages ≤ l.i)
    × (g.E.Sink.lent l.sink ≡ g.E.Sink.lent l.initial.sink)
