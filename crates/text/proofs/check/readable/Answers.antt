use Rattle.std.proofs.Common.{rules, ◌≤◌, ◌-◌, Some, None, Err, ◌≡◌, length, sym, ap, ◌∙◌, subst, inl, inr, arith}
use Rattle.std.specs.Option.{SomeIff}
use Rattle.text.specs.declared.refusal.Refusal.TheVariants.{Unreadable}
use Rattle.lexer.specs.Reading.{cannot_read}
use Rattle.lexer.specs.Lexing.{from, Saw}
use Rattle.text.specs.Refusing.{passed_with}
use Rattle.text.proofs.Passing.{Plain, past_number, past_word, past_quoted, past_open, past_close, closes_nothing, ends_closed, ends_open}
use Rattle.text.proofs.check.readable.Goals as goal

pub returns-in_err-open-in-Close : goal.returns-in_err-open-in-Close
returns-in_err-open-in-Close c =
    let s = c.args.source.now in
    let i = c.loop-place.at in
    let j = c.lexeme_at-next.result.1 in
    let saw = subst (λ z. Saw s i z j) c.in-Close.is c.lexeme_at-next.ensures in
    let off : c.checked_sub.result ≡ None = grind arith in
    let none : c.loop-place.open ≡ 0 = omega (arith, subst (λ r. SomeIff r (1 ≤ c.loop-place.open) (c.loop-place.open - 1)) off c.checked_sub.ensures) in
    let is : c.from_residual.result ≡ Err (Unreadable c.in-Close.place) = search rules in
    is ∙ ap (passed_with Unreadable tt) (sym (closes_nothing s i j c.in-Close.place (length s) c.loop-place.open saw none) ∙ c.loop-place.invariant.2)

pub loop-place-preserved-in-Open : goal.loop-place-preserved-in-Open
loop-place-preserved-in-Open c =
    let s = c.args.source.now in
    let i = c.loop-place.at in
    let j = c.lexeme_at-next.result.1 in
    let saw = subst (λ z. Saw s i z j) c.in-Open.is c.lexeme_at-next.ensures in
    (saw.1, omega arith, past_open s i j c.in-Open.place (length s) c.loop-place.open saw ∙ c.loop-place.invariant.2)

pub loop-place-preserved-in_ok-open-in-Close : goal.loop-place-preserved-in_ok-open-in-Close
loop-place-preserved-in_ok-open-in-Close c =
    let s = c.args.source.now in
    let i = c.loop-place.at in
    let j = c.lexeme_at-next.result.1 in
    let saw = subst (λ z. Saw s i z j) c.in-Close.is c.lexeme_at-next.ensures in
    let on : c.checked_sub.result ≡ Some c.in_ok-open-in-Close.open = grind arith in
    let less = subst (λ r. SomeIff r (1 ≤ c.loop-place.open) (c.loop-place.open - 1)) on c.checked_sub.ensures in
    (saw.1, omega arith, ap (cannot_read (from s j) (length s)) less.1 ∙ past_close s i j c.in-Close.place (length s) c.loop-place.open saw less.0 ∙ c.loop-place.invariant.2)

pub loop-place-preserved : goal.loop-place-preserved
loop-place-preserved c =
    let s = c.args.source.now in
    let i = c.loop-place.at in
    let j = c.lexeme_at-next.result.1 in
    let saw = c.lexeme_at-next.ensures in
    let plain : Plain s i j =
    elim c.in-Number.is [
      | inl w ↦ past_number s i j w.0 w.1 (subst (λ z. Saw s i z j) w.2 saw)
      | inr r ↦
          elim r [
            | inl w ↦ past_word s i j w.0 w.1 (subst (λ z. Saw s i z j) w.2 saw)
            | inr w ↦ past_quoted s i j w.0 w.1 (subst (λ z. Saw s i z j) w.2 saw)
          ]
    ] in
    (plain.within, omega arith, plain.same (length s) c.loop-place.open ∙ c.loop-place.invariant.2)

pub returns : goal.returns
returns c =
    let s = c.args.source.now in
    let i = c.loop-place.at in
    let j = c.lexeme_at-next.result.1 in
    let saw = subst (λ z. Saw s i z j) c.in-End.is c.lexeme_at-next.ensures in
    ap (passed_with Unreadable tt) (sym (ends_closed s i j (length s) c.loop-place.open saw (omega arith)) ∙ c.loop-place.invariant.2)

pub returns-then-open-ne0 : goal.returns-then-open-ne0
returns-then-open-ne0 c =
    let s = c.args.source.now in
    let i = c.loop-place.at in
    let j = c.lexeme_at-next.result.1 in
    let saw = subst (λ z. Saw s i z j) c.in-End.is c.lexeme_at-next.ensures in
    ap (passed_with Unreadable tt) (sym (ends_open s i j (length s) c.loop-place.open saw (λ none. omega arith)) ∙ c.loop-place.invariant.2)
