use Rattle.std.proofs.lemmas.List.{replicate_more}
use Rattle.listing.proofs.Putting.{put_none, then_put, put_as}
use Rattle.listing.proofs.writer.Writer.put_blanks.Goals as goal

pub loop-init : goal.loop-init
loop-init c = put_none _

pub loop-preserved : goal.loop-preserved
loop-preserved c = put_as (replicate_more c.loop.counter 32) (then_put c.loop.invariant c.put.ensures)
