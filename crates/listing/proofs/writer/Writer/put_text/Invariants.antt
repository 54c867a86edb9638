use Rattle.std.proofs.Common.{take}
use Rattle.listing.specs.Views.{Puts}
use Rattle.listing.proofs.writer.Writer.put_text.Given as goal

abbrev pub invariant-loop-b : goal.invariant-loop-b
invariant-loop-b l = Puts (take l.b-index l.text) l.initial.self l.self
