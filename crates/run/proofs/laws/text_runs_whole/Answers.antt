use Rattle.std.proofs.Common.{ap, ◌∙◌}
use Rattle.tokens.proofs.Decoding.{stored_reads_back}
use Rattle.lexer.proofs.Ranges.{read_in_range}
use Rattle.machine.specs.Machine.{run, begin}
use Rattle.machine.specs.Stage.{run_of}
use Rattle.machine.proofs.Staged.{stages_are_whole}
use Rattle.run.proofs.laws.text_runs_whole.Goals as goal

-- what was stored is read back, and no operator of another stage is among it
pub returns : goal.returns
returns g c = λ bs ts n h.
    let can = g.S.Stage.can in
    let fit = read_in_range can bs ts h in
    let back = stored_reads_back can ts fit in
    (ap (λ z. run_of can n (begin z)) back ∙ stages_are_whole can ts n fit, ap (λ z. run n (begin z)) back)
