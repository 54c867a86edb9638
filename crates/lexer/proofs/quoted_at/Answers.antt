use Rattle.std.proofs.Common.{◌+◌, ◌-◌, ◌≤◌, length, take, drop, refl, sym, ap, ◌∙◌, inl, inr, arith}
use Rattle.std.proofs.lemmas.Bool.Decides.{eqb_tells}
use Rattle.lexer.specs.Reading.{a_quoted, slashed, goes_on, is_between, cannot_read, at}
use Rattle.lexer.proofs.Lexemes.{quoted_run, quoted_finished, quoted_empty, letters_are, letters_long, letters_stuck}
use Rattle.lexer.proofs.quoted_at.Goals as goal

pub returns-in-Ok : goal.returns-in-Ok
unfolding goes_on is_between
returns-in-Ok c =
    let s = c.args.source.now in
    let p = c.args.place in
    let r = c.in-Ok.end in
    let run = c.in-Ok.ensures.0 in
    let w = take (r - (p + 1)) (drop (p + 1) s) in
    let inside : r ≤ length s = run.within in (
      omega arith,
      inside,
      letters_are s p (p + 1) r (a_quoted p w) (slashed p w) refl run.bound inside (quoted_finished s p r (omega arith) inside) (quoted_run s p r c.requires.0 c.requires.1 run.bound run.places) run.stops c.in-Ok.ensures.1 c.in-Ok.ensures.2,
    )

pub returns-in-Ok-2 : goal.returns-in-Ok-2
unfolding goes_on
returns-in-Ok-2 c =
    let s = c.args.source.now in
    let p = c.args.place in
    let r = c.in-Ok.end in
    let run = c.in-Ok.ensures.0 in
    (refl, quoted_empty s p r (omega (arith, run.bound)) (quoted_run s p r c.requires.0 c.requires.1 run.bound run.places) run.stops)

pub returns-in-Err : goal.returns-in-Err
unfolding goes_on is_between cannot_read
returns-in-Err c =
    let s = c.args.source.now in
    let p = c.args.place in
    let r = c.in-Err.ensures.0 in
    let run = c.in-Err.ensures.1 in
    let w = take (r - (p + 1)) (drop (p + 1) s) in
    let inside : r ≤ length s = run.within in
    let whole = quoted_run s p r c.requires.0 c.requires.1 run.bound run.places in
    elim c.in-Err.ensures.2 [
      | inl e ↦ (refl, λ len left. letters_long s p (p + 1) r (a_quoted p w) (slashed p w) refl run.bound inside (quoted_finished s p r (omega arith) inside) whole run.stops e.0 len left ∙ ap at (sym e.1))
      | inr e ↦
          elim (eqb_tells r (p + 1)) [
            | inl none ↦ (refl, λ len left. quoted_empty s p r none.1 whole run.stops len left ∙ ap at (sym e.2))
            | inr some ↦ (refl, λ len left. letters_stuck s p (p + 1) r (a_quoted p w) (slashed p w) refl run.bound inside (quoted_finished s p r (omega (arith, some.1)) inside) whole run.stops (λ qs n m. refl) e.0 e.1 len left ∙ ap at (sym e.2))
          ]
    ]
