use Rattle.std.proofs.Common.{◌≡◌, ◌+◌, length, drop, sym, ap, ◌∙◌, length-drop, arith}
use Rattle.std.specs.List.{prefix_len}
use Rattle.std.proofs.lemmas.List.Sums.{prefix_len-le-length}
use Rattle.std.proofs.lemmas.Slice.{between_to_end}
use Rattle.lexer.specs.Lexing.{from, in_line}
use Rattle.lexer.proofs.Scanning.{remark_skipped}
use Rattle.lexer.proofs.skip_remark.Goals.{After-line_length}
use Rattle.lexer.proofs.skip_remark.Goals as goal

many : (c : After-line_length) → c.line_length.result ≡ prefix_len in_line (drop c.args.at c.args.source.now)
many c = c.line_length.ensures ∙ ap (prefix_len in_line) (between_to_end c.args.source.now c.args.at (length c.args.source.now) (omega arith))

pub overflow_add-result : goal.overflow_add-result
overflow_add-result c =
    let s = c.args.source.now in
    let d = drop c.args.at s in
    omega (arith, many c, prefix_len-le-length in_line d, length-drop c.args.at s)

pub returns-clause-rest : goal.returns-clause-rest
returns-clause-rest c = remark_skipped c.args.source.now c.args.at c.requires ∙ ap (λ n. from c.args.source.now (c.args.at + n)) (sym (many (goal.at.returns-clause-rest c).After-line_length))
