use Rattle.listing.proofs.Putting.{put_none}
use Rattle.listing.proofs.writer.Writer.put_mark.Goals as goal

pub returns-else-unshown : goal.returns-else-unshown
returns-else-unshown c = rw c.if-unshown.false (put_none _)
