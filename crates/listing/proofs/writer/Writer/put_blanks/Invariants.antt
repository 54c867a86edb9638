use Rattle.listing.specs.Lines.{blanks}
use Rattle.listing.specs.Views.{Puts}
use Rattle.listing.proofs.writer.Writer.put_blanks.Given as goal

abbrev pub invariant-loop : goal.invariant-loop
invariant-loop l = Puts (blanks l.counter) l.initial.self l.self
