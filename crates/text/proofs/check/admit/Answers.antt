use Rattle.std.proofs.Common.{◌≡◌, ◌+◌, ◌-◌, true, false, ◌∷◌, sym, ap, ◌∙◌, subst, arith}
use Rattle.lexer.specs.Reading.{opens, closes, at, above_limit}
use Rattle.words.specs.Naming.{words_of}
use Rattle.words.specs.Meaning.{Stands, plain_limit, plain_names}
use Rattle.text.specs.Limits.{Admits}
use Rattle.text.proofs.Limiting.{piece_place, same_place, not_wrong, too_many, too_deep, opened, closed, plain_step, plain_of}
use Rattle.text.proofs.check.admit.Goals as goal

pub returns-in_err-tokens : goal.returns-in_err-tokens
returns-in_err-tokens g c =
    subst (λ r. Admits g.S.Stage.can r c.args.lexeme c.args.counts c.args.names.now c.args.names.now) (sym c.from_residual.ensures) (λ q p ps h e.
    let x = c.args.lexeme in
    too_many g.S.Stage.can q ps c.args.counts.tokens c.args.counts.depth (words_of c.args.names.now) (λ n f. not_wrong x n (subst (Stands x) f h)) c.in_err-tokens.ensures
    ∙ ap at (same_place x q p h e))

pub returns-in_err-depth-in-Open : goal.returns-in_err-depth-in-Open
returns-in_err-depth-in-Open g c =
    subst (λ r. Admits g.S.Stage.can r c.args.lexeme c.args.counts c.args.names.now c.args.names.now) (sym c.from_residual-in_err-depth-in-Open.ensures) (λ q p ps h e.
    let ws = words_of c.args.names.now in
    let k = c.in-Open.place in
    let is : q ≡ opens k = subst (λ x. Stands x q) c.in-Open.is h in
    let place : k ≡ p = sym (ap piece_place is) ∙ same_place c.args.lexeme q p h e in
    ap (λ z. above_limit (z ∷ ps) g.S.Stage.can c.args.counts.tokens c.args.counts.depth ws) is
    ∙ too_deep g.S.Stage.can k ps c.args.counts.tokens c.args.counts.depth ws c.in_ok-tokens.ensures.0 c.in_err-depth-in-Open.ensures
    ∙ ap at place)

pub returns-in_err-plain_token-in_default : goal.returns-in_err-plain_token-in_default
returns-in_err-plain_token-in_default g c =
    subst (λ r. Admits g.S.Stage.can r c.args.lexeme c.args.counts c.args.names.now c.plain_token.new.names) (sym c.from_residual-in_err-plain_token-in_default.ensures) (λ q p ps h e.
    let x = c.args.lexeme in
    let ws = words_of c.args.names.now in
    let plain = plain_of x q h c.in_default.not-Open c.in_default.not-Close in
    let above : plain_limit g.S.Stage.can q ws ≡ false = c.in_err-plain_token-in_default.ensures q h plain in
    plain_step g.S.Stage.can q ps c.args.counts.tokens c.args.counts.depth ws plain c.in_ok-tokens.ensures.0 ∙ simp above (ap at (same_place x q p h e)))

pub returns-in_ok-depth-in-Open : goal.returns-in_ok-depth-in-Open
returns-in_ok-depth-in-Open g c = λ q ps h.
    let t = c.args.counts.tokens in
    let ws = words_of c.args.names.now in
    let k = c.in-Open.place in
    let is : q ≡ opens k = subst (λ x. Stands x q) c.in-Open.is h in
    let tokens = c.in_ok-tokens.ensures in
    let depth = c.in_ok-depth-in-Open.ensures in (
      tokens.1,
      ap (λ z. above_limit (z ∷ ps) g.S.Stage.can t c.args.counts.depth ws) is
          ∙ opened g.S.Stage.can k ps t c.args.counts.depth ws tokens.0 depth.0
          ∙ ap (λ z. above_limit ps g.S.Stage.can z (c.args.counts.depth + 1) ws) (sym tokens.1)
          ∙ ap (λ z. above_limit ps g.S.Stage.can c.in_ok-tokens.tokens z ws) (sym depth.1),
    )

pub returns-in-Close : goal.returns-in-Close
returns-in-Close g c = λ q ps h.
    let t = c.args.counts.tokens in
    let ws = words_of c.args.names.now in
    let k = c.in-Close.place in
    let is : q ≡ closes k = subst (λ x. Stands x q) c.in-Close.is h in
    let tokens = c.in_ok-tokens.ensures in (
      tokens.1,
      ap (λ z. above_limit (z ∷ ps) g.S.Stage.can t c.args.counts.depth ws) is
          ∙ closed g.S.Stage.can k ps t c.args.counts.depth ws tokens.0
          ∙ ap (λ z. above_limit ps g.S.Stage.can z (c.args.counts.depth - 1) ws) (sym tokens.1)
          ∙ ap (λ z. above_limit ps g.S.Stage.can c.in_ok-tokens.tokens z ws) (omega arith),
    )

pub returns-in_ok-plain_token-in_default : goal.returns-in_ok-plain_token-in_default
returns-in_ok-plain_token-in_default g c = λ q ps h.
    let t = c.args.counts.tokens in
    let d = c.args.counts.depth in
    let ws = words_of c.args.names.now in
    let plain = plain_of c.args.lexeme q h c.in_default.not-Open c.in_default.not-Close in
    let tokens = c.in_ok-tokens.ensures in
    let read = c.in_ok-plain_token-in_default.ensures q h plain in
    let within : plain_limit g.S.Stage.can q ws ≡ true = read.0 in (
      tokens.1,
      plain_step g.S.Stage.can q ps t d ws plain tokens.0
          ∙ simp within (ap (λ z. above_limit ps g.S.Stage.can z d (plain_names q ws)) (sym tokens.1) ∙ ap (λ z. above_limit ps g.S.Stage.can c.in_ok-tokens.tokens d z) (sym read.2)),
    )
