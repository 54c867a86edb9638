use Rattle.std.proofs.Common.{ap, arith, rules}
use Rattle.tokens.specs.Stored.{decode}
use Rattle.machine.specs.Machine.{begin}
use Rattle.listing.specs.Output.{Output}
use Rattle.run.proofs.Driving.{as_whole}
use Rattle.listing.proofs.Telling.{all_written}
use Rattle.listing.proofs.things.list_things.Goals as goal

pub returns : goal.returns
returns c =
    let e = c.run_job.ensures in
    let done = all_written c.args.bytes.now c.args.steps (begin (decode c.args.tokens.now)) c.run_job.result _ _ _ (omega arith) (omega arith) c.new-sink.ensures.value (as_whole e.driven) c.mark.ensures.wrote in
    let same = ap (λ (o : Output). o.bytes) done in
    record { value = ap (λ (o : Output). o.at) done; bytes = search rules; path = e.words; clips = e.clips }
