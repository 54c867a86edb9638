use Rattle.std.proofs.Common.{◌-◌, take, drop, refl, sym, ap, ◌∙◌, inl, inr}
use Rattle.lexer.specs.Reading.{a_word, word, is_letter, goes_on, finished, is_between, cannot_read, at}
use Rattle.lexer.proofs.Lexemes.{passed, word_run, letters_are, letters_long, letters_stuck}
use Rattle.lexer.proofs.word_at.Goals as goal

pub returns-in-Ok : goal.returns-in-Ok
unfolding goes_on finished is_between
returns-in-Ok c =
    let s = c.args.source.now in
    let p = c.args.place in
    let r = c.in-Ok.end in
    let run = c.in-Ok.ensures.0 in
    let w = take (r - p) (drop p s) in
    let inside = run.within in (
      passed s is_letter p r run.bound c.requires.0 c.requires.1 run.stops,
      inside,
      letters_are s p p r (a_word p w) (word p w) refl run.bound inside refl (word_run s p r c.requires.0 c.requires.1 run.bound run.places) run.stops c.in-Ok.ensures.1 c.in-Ok.ensures.2,
    )

pub returns-in-Err : goal.returns-in-Err
unfolding goes_on finished is_between cannot_read
returns-in-Err c =
    let s = c.args.source.now in
    let p = c.args.place in
    let r = c.in-Err.ensures.0 in
    let run = c.in-Err.ensures.1 in
    let w = take (r - p) (drop p s) in
    let inside = run.within in
    let whole = word_run s p r c.requires.0 c.requires.1 run.bound run.places in
    elim c.in-Err.ensures.2 [
      | inl e ↦ (refl, λ len left. letters_long s p p r (a_word p w) (word p w) refl run.bound inside refl whole run.stops e.0 len left ∙ ap at (sym e.1))
      | inr e ↦ (refl, λ len left. letters_stuck s p p r (a_word p w) (word p w) refl run.bound inside refl whole run.stops (λ qs n m. refl) e.0 e.1 len left ∙ ap at (sym e.2))
    ]
