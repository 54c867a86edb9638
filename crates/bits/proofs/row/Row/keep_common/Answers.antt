use Rattle.std.proofs.Common.{◌≡◌, ◌-◌, ◌/◌, ◌&&◌, length, sym, ap, ◌∙◌, arith}
use Rattle.bits.specs.Row.{bit_at}
use Rattle.bits.proofs.RowLaws.{empty_within, bit_unset, length-middle, common_all}
use Rattle.bits.proofs.row.Row.keep_common.Goals as goal

pub returns-then-self-clause-value : goal.returns-then-self-clause-value
returns-then-self-clause-value g c x =
    let self = c.args.self.now in
    let others = c.args.others.now in
    let top = self.within.0 in
    let mid = length-middle self.words self.low self.high top in
    let len : length c.keep_words.new.words ≡ self.high - self.low = omega arith in
    common_all self.words others.words c.keep_words.new.words self.low self.high x (omega arith) (omega arith) self.within len (λ i h. c.keep_words.ensures i (omega arith))

-- a row with nothing set
pub returns-else-self-clause-value : goal.returns-else-self-clause-value
returns-else-self-clause-value g c x =
    let self = c.args.self.now in
    let none = bit_unset self.words x (empty_within self.words self.low self.high (omega arith) self.within (x / 64)) in
    none ∙ sym (ap (λ b. b && bit_at c.args.others.now.words x) none)
