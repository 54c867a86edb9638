use Rattle.std.proofs.Common.{◌≡◌, ℕ, ◌-◌, ◌*◌, ◌<◌, ◌≤◌, cond, length, get_or}
use Rattle.bits.specs.Row.{bit_at}
use Rattle.bits.proofs.row.Row.paint.Given as goal

abbrev pub invariant-loop-i : goal.invariant-loop-i
invariant-loop-i g l =
    ((x : ℕ) → x < length l.dots → x < 64 * l.i → get_or l.dots x 0 ≡ cond (bit_at l.words x) l.grey (get_or l.initial.dots x 0))
    × ((x : ℕ) → 64 * l.i ≤ x → get_or l.dots x 0 ≡ get_or l.initial.dots x 0)

abbrev pub decreases-loop-i : goal.decreases-loop-i
decreases-loop-i g l = l.self.high - l.i
