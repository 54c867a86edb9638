use Rattle.std.proofs.Common.{◌≡◌, ℕ, ◌-◌, ◌≤◌, min, length, drop}
use Rattle.lexer.specs.Reading.{pieces, a_number}
use Rattle.lexer.proofs.scan_digits.Given as goal

abbrev pub invariant-loop-i : goal.invariant-loop-i
invariant-loop-i l =
    (l.at ≤ l.i) × (l.value ≤ 2147483648) × (l.at ≤ length l.source → l.i ≤ length l.source)
    × ((p : ℕ) → ((n : ℕ) × (l.value ≡ min n 2147483648) × (pieces (drop l.at l.source) l.at (a_number p 0) ≡ pieces (drop l.i l.source) l.i (a_number p n))))

abbrev pub decreases-loop-i : goal.decreases-loop-i
decreases-loop-i l = length l.source - l.i
