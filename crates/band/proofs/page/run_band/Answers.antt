use Rattle.std.proofs.Common.{rules}
use Rattle.tokens.specs.Stored.{decode}
use Rattle.machine.specs.Machine.{begin}
use Rattle.std.proofs.lemmas.Bool.{both_ways}
use Rattle.run.proofs.Driving.{as_whole}
use Rattle.band.proofs.Pages.{comes_to}
use Rattle.band.proofs.page.run_band.Goals as goal

-- the page was not shown
pub returns-then-not-shown : goal.returns-then-not-shown
returns-then-not-shown c =
    let a = c.args in
    let job = c.run_job in
    let end = comes_to a.band a.bytes.now c.whiten.new.bytes a.page a.steps (begin (decode a.tokens.now)) job.result _ c.requires.len c.whiten.ensures (as_whole job.ensures.driven) in
    record { shown = end.0; rows = λ h. absurd (both_ways _ c.if-not-shown.true h); none = λ _. search rules; path = job.ensures.words; clips = job.ensures.clips }

-- it was
pub returns-else-not-shown : goal.returns-else-not-shown
returns-else-not-shown c =
    let a = c.args in
    let job = c.run_job in
    let end = comes_to a.band a.bytes.now c.whiten.new.bytes a.page a.steps (begin (decode a.tokens.now)) job.result _ c.requires.len c.whiten.ensures (as_whole job.ensures.driven) in
    record { shown = end.0; rows = λ h. let same = end.1 h in search rules; none = λ h. absurd (both_ways _ h c.if-not-shown.false); path = job.ensures.words; clips = job.ensures.clips }
