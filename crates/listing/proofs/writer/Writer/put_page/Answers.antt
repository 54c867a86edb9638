use Rattle.listing.specs.Lines.{page_line}
use Rattle.listing.proofs.Putting.{then_put}
use Rattle.listing.proofs.writer.Writer.put_page.Goals as goal

pub returns : goal.returns
unfolding page_line
returns c = then_put c.put_text.ensures (then_put c.put_number.ensures c.put_text-2.ensures)
