use Rattle.std.proofs.Common.{suc, ap, sym, ◌∙◌}
use Rattle.bits.specs.Row.{bit_at, odd_below}
use Rattle.raster.specs.Coverage.{differ}
use Rattle.raster.proofs.CrossLaws.{odd_from, leb-past}
use Rattle.raster.proofs.crossing.cross.Goals as goal

pub returns-then-has-clause-value : goal.returns-then-has-clause-value
returns-then-has-clause-value c x le lt =
    let was = bit_at c.args.row.now.words in
    odd_from was (bit_at c.toggle.new.self.words) c.max-x.result x c.toggle.ensures.value
    ∙ ap (λ b. differ b (odd_below was (suc x))) (leb-past c.in-Some.dot c.args.left c.max-x.result x le c.max-x.ensures)
    ∙ sym (ap (λ b. differ b (odd_below was (suc x))) (c.in-Some.ensures x))
