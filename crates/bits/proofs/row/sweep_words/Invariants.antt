use Rattle.std.proofs.Common.{◌≡◌, ℕ, suc, ◌*◌, ◌<◌, ◌≤◌, not, eqb, get_or}
use Rattle.bits.specs.Row.{bit_at, odd_below}
use Rattle.bits.proofs.row.sweep_words.Given as goal

-- words before the index are swept, those from there on as they were, and `carry` is the parity so far
abbrev pub invariant-loop-word : goal.invariant-loop-word
invariant-loop-word l =
    ((x : ℕ) → x < 64 * l.word-index → bit_at l.words x ≡ odd_below (bit_at l.initial.words) (suc x))
    × ((j : ℕ) → l.word-index ≤ j → get_or l.words j 0 ≡ get_or l.initial.words j 0)
    × (l.carry < 2)
    × (not (eqb l.carry 0) ≡ odd_below (bit_at l.initial.words) (64 * l.word-index))
