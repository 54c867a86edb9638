use Rattle.std.proofs.Common.{sym, arith}
use Rattle.std.proofs.lemmas.List.{take_more, take_all}
use Rattle.listing.proofs.Putting.{put_none, then_put, put_as}
use Rattle.listing.proofs.writer.Writer.put_text.Goals as goal

pub loop-b-init : goal.loop-b-init
loop-b-init c = put_none _

pub loop-b-preserved : goal.loop-b-preserved
loop-b-preserved c = put_as (sym (take_more c.args.text.now c.loop-b.b-index 0 (omega arith))) (then_put c.loop-b.invariant c.put.ensures)

pub returns : goal.returns
returns c = put_as (take_all _ c.args.text.now (omega arith)) c.loop-b.invariant
