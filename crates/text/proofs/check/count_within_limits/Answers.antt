use Rattle.std.proofs.Common.{rules, Some, None, Err, subst, ◌≡◌, length, Ok, sym, ap, ◌∙◌, arith}
use Rattle.text.specs.declared.refusal.Refusal.TheVariants.{TooLarge}
use Rattle.lexer.specs.Reading.{above_limit}
use Rattle.lexer.specs.Lexing.{from}
use Rattle.text.specs.Limits.{limits, Admits}
use Rattle.text.specs.Refusing.{passed_with}
use Rattle.text.proofs.Limiting.{next_piece, at_the_end}
use Rattle.text.proofs.check.count_within_limits.Goals as goal

pub returns-in_default : goal.returns-in_default
unfolding above_limit
returns-in_default g c =
    let s = c.args.source.now in
    let inv = c.loop-place.invariant in
    let none = at_the_end s c.loop-place.at c.lexeme_at-next.result.1 c.lexeme_at-next.result.0 c.lexeme_at-next.ensures (sym c.in_default.ensures) in
    let counted : c.loop-place.counts.tokens ≡ length (from s 0) = omega (arith, inv.2, ap length none) in
    ap Ok counted ∙ ap (passed_with TooLarge (length (from s 0))) (sym (ap (λ z. limits g.S.Stage.can z c.loop-place.counts c.loop-place.names) none) ∙ inv.3)

pub returns-in_err-counts : goal.returns-in_err-counts
returns-in_err-counts g c =
    let s = c.args.source.now in
    let inv = c.loop-place.invariant in
    let i = c.loop-place.at in
    let j = c.lexeme_at-next.result.1 in
    let p = c.in-Some.place in
    let place = sym c.in-Some.ensures in
    let next = next_piece s i j (length s) inv.1.0 p c.lexeme_at-next.result.0 c.lexeme_at-next.ensures place inv.1.1 in
    let off : c.admit.result ≡ None = grind arith in
    let above = subst (λ r. Admits g.S.Stage.can r c.lexeme_at-next.result.0 c.loop-place.counts c.loop-place.names c.admit.new.names) off c.admit.ensures next.piece p (from s j) next.stands place in
    let is : c.from_residual.result ≡ Err (TooLarge p) = search rules in
    is ∙ ap (passed_with TooLarge (length (from s 0))) (sym above ∙ sym (ap (λ z. limits g.S.Stage.can z c.loop-place.counts c.loop-place.names) next.is) ∙ inv.3)

pub loop-place-preserved : goal.loop-place-preserved
loop-place-preserved g c =
    let s = c.args.source.now in
    let inv = c.loop-place.invariant in
    let i = c.loop-place.at in
    let j = c.lexeme_at-next.result.1 in
    let next = next_piece s i j (length s) inv.1.0 c.in-Some.place c.lexeme_at-next.result.0 c.lexeme_at-next.ensures (sym c.in-Some.ensures) inv.1.1 in
    let on : c.admit.result ≡ Some c.in_ok-counts.counts = grind arith in
    let admitted = subst (λ r. Admits g.S.Stage.can r c.lexeme_at-next.result.0 c.loop-place.counts c.loop-place.names c.admit.new.names) on c.admit.ensures next.piece (from s j) next.stands in (
      next.within,
      (next.left, next.readable),
      omega (arith, admitted.0, inv.2, ap length next.is),
      sym admitted.1 ∙ sym (ap (λ z. limits g.S.Stage.can z c.loop-place.counts c.loop-place.names) next.is) ∙ inv.3,
    )

pub loop-place-smaller : goal.loop-place-smaller
loop-place-smaller g c =
    let s = c.args.source.now in
    let inv = c.loop-place.invariant in
    let next = next_piece s c.loop-place.at c.lexeme_at-next.result.1 (length s) inv.1.0 c.in-Some.place c.lexeme_at-next.result.0 c.lexeme_at-next.ensures (sym c.in-Some.ensures) inv.1.1 in
    omega (arith, next.on, next.within)
