use Rattle.std.proofs.Common.{◌≡◌, ℕ, ◌/◌, ◌^◌, ◌<◌, ◌≤◌, cond, length, get_or}
use Rattle.bits.specs.Row.{bit}
use Rattle.bits.proofs.painting.paint_word.Given as goal

-- dots before `from` are painted, those from there on as they were, and `rest` has their bits
abbrev pub invariant-loop-rest : goal.invariant-loop-rest
invariant-loop-rest l =
    (l.rest ≡ l.word / 2 ^ l.from)
    × ((x : ℕ) → x < length l.dots → x < l.from → get_or l.dots x 0 ≡ cond (bit l.word x) l.grey (get_or l.initial.dots x 0))
    × ((x : ℕ) → l.from ≤ x → get_or l.dots x 0 ≡ get_or l.initial.dots x 0)

abbrev pub decreases-loop-rest : goal.decreases-loop-rest
decreases-loop-rest l = l.rest
