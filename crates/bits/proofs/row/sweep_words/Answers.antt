use Rattle.std.proofs.Common.{refl, arith}
use Rattle.bits.specs.Row.{odd_below}
use Rattle.bits.proofs.RowLaws.{swept_more}
use Rattle.bits.proofs.row.sweep_words.Goals as goal

pub loop-word-init : goal.loop-word-init
unfolding odd_below
loop-word-init c = (λ x lt. absurd (omega arith), λ j le. refl, omega arith, refl)

pub loop-word-preserved : goal.loop-word-preserved
loop-word-preserved c =
    swept_more c.args.words.now c.loop-word.words c.loop-word.word-index c.loop-word.carry c.swept.result (omega arith) c.swept.type_inv c.swept.ensures c.loop-word.invariant
