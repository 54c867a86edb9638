use Rattle.listing.specs.Lines.{clip_lines}
use Rattle.listing.proofs.Putting.{then_put}
use Rattle.listing.proofs.writer.Writer.put_clip.Goals as goal

pub returns : goal.returns
unfolding clip_lines
returns c = then_put c.put_text.ensures c.put_path.ensures
