use Rattle.std.proofs.Common.{sym, refl, ap, ◌∙◌, arith}
use Rattle.lexer.specs.Reading.{a_number, is_digit, goes_on, finished, is_between, cannot_read}
use Rattle.lexer.proofs.Lexemes.{passed, number_begins, closed, stuck}
use Rattle.lexer.proofs.number_at.Goals as goal

pub returns-then-may_end : goal.returns-then-may_end
unfolding goes_on finished
returns-then-may_end c =
    let s = c.args.source.now in
    let p = c.args.place in
    let found = c.scan_digits-value in
    let r = found.result.1 in
    let n = found.ensures.value p in
    (passed s is_digit p r found.ensures.bound c.requires.0 c.requires.1 found.ensures.stops, found.ensures.within (omega arith), (n.0, n.1, closed s p r (a_number p n.0) (number_begins s p c.requires.0 c.requires.1 ∙ n.2) found.ensures.stops (sym c.if-may_end.ensures)))

pub returns-else-may_end : goal.returns-else-may_end
unfolding goes_on finished is_between cannot_read
returns-else-may_end c =
    let s = c.args.source.now in
    let p = c.args.place in
    let found = c.scan_digits-value in
    let n = found.ensures.value p in
    (refl, λ len left. ap (λ z. cannot_read z len left) (stuck s p found.result.1 (a_number p n.0) refl (number_begins s p c.requires.0 c.requires.1 ∙ n.2) found.ensures.stops (sym c.if-may_end.ensures)))
