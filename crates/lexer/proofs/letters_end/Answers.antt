use Rattle.std.proofs.Common.{◌≡◌, ◌+◌, length, drop, sym, ap, ◌∙◌, subst, length-drop, arith}
use Rattle.std.specs.List.{prefix_len}
use Rattle.std.proofs.lemmas.List.Sums.{prefix_len-le-length}
use Rattle.std.proofs.lemmas.Slice.{between_to_end}
use Rattle.lexer.specs.Reading.{is_letter}
use Rattle.lexer.specs.Lexing.{Run}
use Rattle.lexer.proofs.Lexemes.{run_of}
use Rattle.lexer.proofs.letters_end.Goals.{After-letters_before}
use Rattle.lexer.proofs.letters_end.Goals as goal

many : (c : After-letters_before) → c.letters_before.result ≡ prefix_len is_letter (drop c.args.at c.args.source.now)
many c = c.letters_before.ensures ∙ ap (prefix_len is_letter) (between_to_end c.args.source.now c.args.at (length c.args.source.now) (omega arith))

pub overflow_add-result : goal.overflow_add-result
overflow_add-result c =
    let s = c.args.source.now in
    let d = drop c.args.at s in
    omega (arith, many c, prefix_len-le-length is_letter d, length-drop c.args.at s)

pub returns : goal.returns
returns c = subst (λ n. Run c.args.source.now c.args.at (c.args.at + n)) (sym (many (goal.at.returns c).After-letters_before)) (run_of c.args.source.now c.args.at c.requires)
