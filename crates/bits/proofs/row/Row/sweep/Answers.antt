use Rattle.std.proofs.Common.{◌≡◌, ◌-◌, true, false, not, eqb, length, sym, ap, ◌∙◌, arith}
use Rattle.std.proofs.lemmas.Bool.{eq-eqb, ne_eqb}
use Rattle.bits.proofs.PartLaws.{put_length, filled}
use Rattle.bits.proofs.RowLaws.{empty_within, odd_empty, length-middle, middle_swept, middle_parity, middle_within, swept_even, swept_odd}
use Rattle.bits.proofs.row.Row.sweep.Goals as goal

pub returns-then-self-clause-value : goal.returns-then-self-clause-value
returns-then-self-clause-value g c x lt =
    let self = c.args.self.now in
    odd_empty self.words (empty_within self.words self.low self.high (omega arith) self.within) x

-- the row is set from its last change on
pub returns-then-sweep_words-ne0-clause-value : goal.returns-then-sweep_words-ne0-clause-value
returns-then-sweep_words-ne0-clause-value g c x lt =
    let self = c.args.self.now in
    let part = c.sweep_words.new.words in
    let end = c.fill.new.self in
    let top = self.within.0 in
    let mid = length-middle self.words self.low self.high top in
    let len : length part ≡ self.high - self.low = omega arith in
    let all = put_length self.low (self.high - self.low) self.words part (omega arith) len in
    let odd : not (eqb c.sweep_words.result 0) ≡ true = ap not (ne_eqb c.sweep_words.result 0 (λ z. omega arith)) in
    swept_odd self.words _ end self.low self.high self.len self.within (omega arith) (omega arith)
    (λ k less. middle_swept self.words part self.low self.high k (omega arith) self.within len (λ i h. c.sweep_words.ensures.value i (omega arith)) less)
    (λ i h. filled _ 18446744073709551615 end (c.fill.ensures.after (λ y e. e)) i (omega arith))
    (omega arith)
    (sym odd ∙ c.sweep_words.ensures.parity ∙ middle_parity self.words self.low self.high (omega arith) self.within)
    x lt

-- or it is empty from there on
pub returns-else-sweep_words-ne0-clause-value : goal.returns-else-sweep_words-ne0-clause-value
returns-else-sweep_words-ne0-clause-value g c x lt =
    let self = c.args.self.now in
    let part = c.sweep_words.new.words in
    let mid = length-middle self.words self.low self.high self.within.0 in
    let len : length part ≡ self.high - self.low = omega arith in
    let even : not (eqb c.sweep_words.result 0) ≡ false = ap not (eq-eqb c.sweep_words.result 0 (omega arith)) in
    swept_even self.words _ self.low self.high self.within
    (λ k less. middle_swept self.words part self.low self.high k (omega arith) self.within len (λ i h. c.sweep_words.ensures.value i (omega arith)) less)
    (middle_within self.words part self.low self.high (omega arith) self.within len).2
    (sym even ∙ c.sweep_words.ensures.parity ∙ middle_parity self.words self.low self.high (omega arith) self.within)
    x
