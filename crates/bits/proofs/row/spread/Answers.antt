use Rattle.bits.proofs.RowLaws.{spans_one, spans_twice, spans_all}
use Rattle.bits.proofs.row.spread.Goals as goal

pub returns : goal.returns
returns c =
    let w = c.args.word in
    spans_all w _ (spans_twice w 32 _ (spans_twice w 16 _ (spans_twice w 8 _ (spans_twice w 4 _ (spans_twice w 2 _ (spans_twice w 1 _ (spans_one w)))))))
