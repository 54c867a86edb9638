use Rattle.std.proofs.Common.{◌/◌, ◌%◌, eqb, [], ◌++◌, decimal, sym, ap, ◌∙◌}
use Rattle.std.proofs.lemmas.List.{append-nil}
use Rattle.std.proofs.lemmas.Bool.{eq-eqb, ne_eqb, cond-true, cond-false}
use Rattle.listing.specs.Lines.{place}
use Rattle.listing.proofs.Putting.{then_put, put_as}
use Rattle.listing.proofs.writer.Writer.put_place.Goals as goal

pub returns-then-n-ne0 : goal.returns-then-n-ne0
unfolding place
returns-then-n-ne0 c =
    let n = c.args.n in
    let some = then_put c.put_number.ensures (then_put c.put_text.ensures (then_put c.put_number-then-n-ne0.ensures c.put_text-then-n-ne0.ensures)) in
    put_as (ap (λ z. decimal (n / 16) ++ z) (sym (cond-false (eqb (n % 16) 0) [] _ (ne_eqb (n % 16) 0 c.if-n-ne0.true)))) some

pub returns-else-n-ne0 : goal.returns-else-n-ne0
unfolding place
returns-else-n-ne0 c =
    let n = c.args.n in
    put_as (sym (ap (λ z. decimal (n / 16) ++ z) (cond-true (eqb (n % 16) 0) [] _ (eq-eqb (n % 16) 0 c.if-n-ne0.false)) ∙ append-nil (decimal (n / 16)))) c.put_number.ensures
