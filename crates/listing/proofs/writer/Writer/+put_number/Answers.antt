use Rattle.std.proofs.Common.{◌+◌, [], ◌∷◌, sym, ap, ◌∙◌, arith}
use Rattle.std.proofs.lemmas.Fmt.{decimal_digit, decimal_step}
use Rattle.listing.proofs.Putting.{then_put, put_as}
use Rattle.listing.proofs.writer.Writer.+put_number.Goals as goal
use Rattle.listing.proofs.writer.Writer.+put_number.Goals.{then-n-ge10, else-n-ge10}

-- the last digit stands behind the others, and alone where there is no other
pub returns : goal.returns
returns t c =
    let n = c.args.n in
    elim c.if-n-ge10.branch [
      | then-n-ge10 w ↦ put_as (sym (decimal_step n (omega arith) (omega arith))) (then_put w.put_number.ensures (rw w.self-is at c.put.ensures))
      | else-n-ge10 w ↦ put_as (sym (decimal_digit n (omega arith) ∙ ap (λ z. (48 + z) ∷ []) (omega arith))) (rw w.self-is at c.put.ensures)
    ]
