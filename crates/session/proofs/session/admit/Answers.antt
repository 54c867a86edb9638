use Rattle.std.proofs.Common.{Err, sym, ap, ◌∙◌, subst, arith}
use Rattle.std.proofs.lemmas.Bool.{leb-true, leb-false}
use Rattle.std.proofs.lemmas.Result.{err_from_is_err_and}
use Rattle.tokens.specs.Stage.{whole}
use Rattle.lexer.specs.Reading.{read}
use Rattle.session.specs.Views.{order_of, Admitted}
use Rattle.session.proofs.Opening.{refused_text, turned, passed, bad_size, few_words, bytes_tested}
use Rattle.session.proofs.session.admit.Goals as goal

pub returns-in_err-tokens : goal.returns-in_err-tokens
returns-in_err-tokens c =
    let o = order_of c.args.source.now c.args.order c.args.words c.args.bytes in
    let d = read whole c.args.source.now in
    let q = err_from_is_err_and c.from_residual.result c.from_residual.ensures.1 in
    subst (λ r. Admitted r o d) (sym (q.1 ∙ ap Err q.2)) (refused_text o d c.in_err-tokens.field-0.0 c.in_err-tokens.ensures)

pub returns-in_err-in_range : goal.returns-in_err-in_range
returns-in_err-in_range c =
    let o = order_of c.args.source.now c.args.order c.args.words c.args.bytes in
    let d = read whole c.args.source.now in
    let q = err_from_is_err_and c.from_residual-in_err-in_range.result c.from_residual-in_err-in_range.ensures.1 in
    let t = turned _ _ _ c.in_err-in_range.ensures in
    subst (λ r. Admitted r o d) (sym (q.1 ∙ ap Err (q.2 ∙ t.1))) (bad_size o d c.in_ok-tokens.tokens c.in_ok-tokens.ensures t.0)

pub returns-in_err-enough : goal.returns-in_err-enough
returns-in_err-enough c =
    let o = order_of c.args.source.now c.args.order c.args.words c.args.bytes in
    let d = read whole c.args.source.now in
    let q = err_from_is_err_and c.from_residual-in_err-enough.result c.from_residual-in_err-enough.ensures.1 in
    let t = turned _ _ _ c.in_err-enough.ensures in
    let few = leb-false _ _ t.0 in
    subst (λ r. Admitted r o d) (sym (q.1 ∙ ap Err (q.2 ∙ t.1))) (few_words o d c.in_ok-tokens.tokens c.in_ok-tokens.ensures (passed _ _ _ c.in_ok-in_range.ensures) (omega (arith, few, c.words_asked.ensures)))

pub returns : goal.returns
returns c =
    let o = order_of c.args.source.now c.args.order c.args.words c.args.bytes in
    let room = leb-true _ _ (passed _ _ _ c.in_ok-enough.ensures) in
    bytes_tested o _ c.in_ok-tokens.tokens c.in_ok-tokens.ensures (passed _ _ _ c.in_ok-in_range.ensures) (omega (arith, room, c.words_asked.ensures)) _ c.enough-2.ensures
