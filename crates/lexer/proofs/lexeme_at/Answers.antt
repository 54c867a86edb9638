use Rattle.std.proofs.Common.{◌≡◌, true, false, get_or, sym, refl, ◌∙◌, arith}
use Rattle.std.proofs.lemmas.Bool.Decides.{nat_tests}
use Rattle.lexer.specs.Reading.{between, is_digit, is_letter, is_brace, may_begin, finished}
use Rattle.lexer.proofs.Scanning.{at_end}
use Rattle.lexer.proofs.Lexemes.{brace_is, wrong_is, wrong_first}
use Rattle.lexer.proofs.lexeme_at.Goals as goal

pub returns-then-place-source : goal.returns-then-place-source
unfolding finished
returns-then-place-source c = (refl, c.skip_blanks-place.ensures.rest ∙ at_end c.args.source.now c.skip_blanks-place.result between (omega arith))

pub returns-then-b-eq123 : goal.returns-then-b-eq123
returns-then-b-eq123 c =
    let s = c.args.source.now in
    let i = c.skip_blanks-place.result in
    let b : is_brace (get_or s i 0) ≡ true = grind (arith, nat_tests) in
    (omega arith, omega arith, c.skip_blanks-place.ensures.rest ∙ brace_is s i (omega arith) b ∙ simp c.if-b-eq123.true)

pub returns-then-b-eq125 : goal.returns-then-b-eq125
returns-then-b-eq125 c =
    let s = c.args.source.now in
    let i = c.skip_blanks-place.result in
    let b : is_brace (get_or s i 0) ≡ true = grind (arith, nat_tests) in
    (omega arith, omega arith, c.skip_blanks-place.ensures.rest ∙ brace_is s i (omega arith) b ∙ simp c.if-b-eq125.true)

pub returns : goal.returns
returns c =
    let s = c.args.source.now in
    let i = c.skip_blanks-place.result in
    let stops = c.skip_blanks-place.ensures.stops (omega arith) in
    let d : is_digit (get_or s i 0) ≡ false = sym c.if-digit.ensures in
    let l : is_letter (get_or s i 0) ≡ false = sym c.if-letter.ensures in
    let b : is_brace (get_or s i 0) ≡ false = grind (arith, nat_tests) in
    let m : may_begin (get_or s i 0) ≡ false = grind (arith, nat_tests) in
    (refl, wrong_first _ _ i (c.skip_blanks-place.ensures.rest ∙ wrong_is s i (omega arith) stops.0 b m))
