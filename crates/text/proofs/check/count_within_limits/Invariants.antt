use Rattle.std.proofs.Common.{◌≡◌, ℕ, ◌+◌, ◌-◌, ◌≤◌, [], length}
use Rattle.lexer.specs.Reading.{cannot_read, above_limit, fine}
use Rattle.lexer.specs.Lexing.{from}
use Rattle.text.specs.Limits.{limits}
use Rattle.text.proofs.check.count_within_limits.Given as goal

-- what is left can be read, and decides with the counts so far
abbrev pub invariant-loop-place : goal.invariant-loop-place
invariant-loop-place g l =
    (l.at ≤ length l.source) × ((left : ℕ) × (cannot_read (from l.source l.at) (length l.source) left ≡ fine))
    × (l.counts.tokens + length (from l.source l.at) ≡ length (from l.source 0))
    × (limits g.S.Stage.can (from l.source l.at) l.counts l.names ≡ above_limit (from l.source 0) g.S.Stage.can 0 0 [])

abbrev pub decreases-loop-place : goal.decreases-loop-place
decreases-loop-place g l = length l.source - l.at
