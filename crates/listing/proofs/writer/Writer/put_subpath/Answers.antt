use Rattle.listing.specs.Lines.{subpath_lines}
use Rattle.listing.proofs.Putting.{then_put}
use Rattle.listing.proofs.writer.Writer.put_subpath.Goals as goal

pub returns : goal.returns
unfolding subpath_lines
returns c = then_put c.put_blanks.ensures (then_put c.put_text.ensures c.put_points.ensures)
