use Rattle.listing.specs.Lines.{point_line}
use Rattle.listing.proofs.Putting.{then_put}
use Rattle.listing.proofs.writer.Writer.put_point.Goals as goal

pub returns : goal.returns
unfolding point_line
returns c = then_put c.put_blanks.ensures (then_put c.put_text.ensures (then_put c.put_place.ensures (then_put c.put_text-2.ensures (then_put c.put_place-2.ensures c.put_text-3.ensures))))
