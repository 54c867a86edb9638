use Rattle.std.proofs.Common.{◌≡◌, suc, true, false, not, eqb, sym, ap, ◌∙◌, arith}
use lib.Bits.{bit_xor}
use Rattle.std.proofs.lemmas.Bool.{eq-eqb, ne_eqb}
use Rattle.bits.specs.Row.{bit, odd_below}
use Rattle.bits.proofs.BitLaws.{bit_zero, bit_ones}
use Rattle.bits.proofs.RowLaws.{carried_none}
use Rattle.bits.proofs.row.swept.Goals as goal

pub returns-then-carry-eq0 : goal.returns-then-carry-eq0
returns-then-carry-eq0 c k lt =
    let e : not (eqb c.args.carry 0) ≡ false = ap not (eq-eqb c.args.carry 0 (omega arith)) in
    carried_none c.args.carry 0 k (omega arith) (bit_zero k ∙ sym e) ∙ sym (ap (λ w. odd_below (bit (bit_xor w c.args.carry)) (suc k)) c.if-word-ne0.false)

pub returns-else-carry-eq0 : goal.returns-else-carry-eq0
returns-else-carry-eq0 c k lt =
    let e : not (eqb c.args.carry 0) ≡ true = ap not (ne_eqb c.args.carry 0 (λ z. omega arith)) in
    carried_none c.args.carry 18446744073709551615 k (omega arith) (bit_ones k lt ∙ sym e) ∙ sym (ap (λ w. odd_below (bit (bit_xor w c.args.carry)) (suc k)) c.if-word-ne0.false)
