use Rattle.std.proofs.Common.{rules, ◌≡◌, true, false, ltb, [], length, Err, sym, refl, ap, ◌∙◌, subst}
use Rattle.text.specs.declared.refusal.Refusal.TheVariants.{Unreadable, TooLarge}
use Rattle.lexer.specs.Reading.{cannot_read, above_limit, build, read, fine, at}
use Rattle.lexer.specs.Lexing.{from}
use Rattle.text.specs.Refusing.{passed_with, Checked}
use Rattle.lexer.proofs.Counting.{counted}
use Rattle.text.proofs.Judging.{judge, unreadable, too_long, limited, found_none, found_there, judged_by, left_out, let_in}
use Rattle.text.proofs.check.count_tokens.Goals as goal

pub returns-in_err-readable : goal.returns-in_err-readable
returns-in_err-readable g c =
    let s = c.args.source.now in
    let found = found_there tt c.in_err-readable.field-0.0 (cannot_read (from s 0) (length s) 0) c.in_err-readable.ensures in
    let short = ltb (length s) 16777216 in
    let is : c.from_residual.result ≡ Err c.in_err-readable.field-0.0 = search rules in
    subst (λ r. Checked r (read g.S.Stage.can s)) (sym is) (judged_by g.S.Stage.can s (Err c.in_err-readable.field-0.0) (at found.0) short found.2 refl
    (subst (λ r. Checked (Err r) (judge (at found.0) short (above_limit (from s 0) g.S.Stage.can 0 0 []) (build (from s 0) [] [] []))) (sym found.1) (unreadable found.0 short (above_limit (from s 0) g.S.Stage.can 0 0 []) (build (from s 0) [] [] []))))

pub returns-in_err-short : goal.returns-in_err-short
returns-in_err-short g c =
    let s = c.args.source.now in
    let none : cannot_read (from s 0) (length s) 0 ≡ fine = found_none Unreadable tt tt _ c.in_ok-readable.ensures in
    let long = left_out (ltb (length s) 16777216) c.in_err-short.field-0.0 c.in_err-short.ensures in
    let is : c.from_residual-in_err-short.result ≡ Err c.in_err-short.field-0.0 = search rules in
    subst (λ r. Checked r (read g.S.Stage.can s)) (sym (is ∙ ap Err long.1)) (judged_by g.S.Stage.can s (Err (TooLarge 0)) fine false none long.0 (too_long (above_limit (from s 0) g.S.Stage.can 0 0 []) (build (from s 0) [] [] [])))

pub returns : goal.returns
returns g c =
    let s = c.args.source.now in
    let none : cannot_read (from s 0) (length s) 0 ≡ fine = found_none Unreadable tt tt _ c.in_ok-readable.ensures in
    let short : ltb (length s) 16777216 ≡ true = let_in (ltb (length s) 16777216) c.in_ok-short.ensures in
    let count = sym (counted (from s 0) [] (length s) none) in
    let above = above_limit (from s 0) g.S.Stage.can 0 0 [] in
    subst (λ r. Checked r (read g.S.Stage.can s)) (sym c.within_limits.ensures) (judged_by g.S.Stage.can s (passed_with TooLarge (length (from s 0)) above) fine true none short (limited above (length (from s 0)) (build (from s 0) [] [] []) count))
