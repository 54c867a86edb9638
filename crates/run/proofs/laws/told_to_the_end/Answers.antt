use Rattle.std.proofs.Common.{length, sym, ap, ◌∙◌, arith}
use Rattle.machine.specs.Laws.{state_of}
use Rattle.run.specs.Sinks.{past_of, told}
use Rattle.run.proofs.Driving.{goes_on}
use Rattle.run.proofs.laws.told_to_the_end.Goals as goal

pub returns : goal.returns
returns g c = λ wants runs r n s v w d more.
    let runs_on = goes_on r (λ h. sym more ∙ d.enough h) in
    let all = d.whole runs_on in
    let few = d.few in
    let k = ap (λ m. length (state_of (runs m s)).pages) all in
    (runs_on, d.ended runs_on, d.seen ∙ ap (λ m. told g.E.Sink.paint g.E.Sink.page (past_of (runs m s)) v) all, omega arith)
