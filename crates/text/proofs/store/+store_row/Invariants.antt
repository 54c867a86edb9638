use Rattle.std.proofs.Common.{◌-◌, ◌≤◌, length}
use Rattle.lexer.specs.Lexing.{from}
use Rattle.words.specs.Naming.{words_of}
use Rattle.text.proofs.Storing.{Part}
use Rattle.text.proofs.store.+store_row.Given as goal

abbrev pub decreases-store_row : goal.decreases-store_row
decreases-store_row g l = l.depth

-- the tokens up to here are stored
abbrev pub invariant-loop-p : goal.invariant-loop-p
invariant-loop-p g l =
    (l.initial.p.at ≤ l.p.at)
    × Part g.S.Stage.can (length l.source) (32 - l.depth) (from l.source l.initial.p.at) (words_of l.initial.names) l.initial.p.used l.initial.words (from l.source l.p.at) (words_of l.names) l.p.used l.words

abbrev pub decreases-loop-p : goal.decreases-loop-p
decreases-loop-p g l = length l.source - l.p.at
