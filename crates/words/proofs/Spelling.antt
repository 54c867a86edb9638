-- A word looked up among the operators.
use Rattle.std.proofs.Common.{bytes_eq, ◌≡◌, ℕ, cond, List, [], ◌∷◌, refl, inl, inr}
use Rattle.std.specs.List.{find}
use Rattle.std.proofs.lemmas.Bool.{cases_Bool}
use Rattle.lexer.specs.Reading.{Found, operator, no_operator, same_word, as_operator}
use Rattle.tokens.specs.Stored.{operator_of}
use Rattle.tokens.specs.declared.operator.Operator as code
use Rattle.words.specs.Spelling.{spelled, found_as}
use Rattle.words.proofs.Naming.{same_bytes}
use Rattle.words.specs.declared.operators.TheConstants.{OPERATORS}

-- the first of some operators that a word is
unfoldable pub named_in : List code.Operator → List ℕ → Found
named_in [] w = no_operator
named_in (o ∷ os) w = cond (same_word w (spelled (operator_of o))) (operator (operator_of o)) (named_in os w)

pub found_in : (os : List code.Operator) (w : List ℕ) → found_as (find (λ o. bytes_eq w (spelled (operator_of o))) os) ≡ named_in os w
unfolding named_in
found_in [] w = refl
found_in (o ∷ os) w =
    let e = same_bytes w (spelled (operator_of o)) in
    elim (cases_Bool (same_word w (spelled (operator_of o)))) [
      | inl t ↦ simp (e, t)
      | inr t ↦ simp (e, t) (found_in os w)
    ]

pub all_named : (w : List ℕ) → named_in OPERATORS w ≡ as_operator w
unfolding as_operator named_in
all_named w = refl
