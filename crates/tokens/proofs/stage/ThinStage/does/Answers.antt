use Rattle.std.proofs.Common.{◌≡◌, true, false, sym, refl, ap, ◌∙◌, inl, inr}
use Rattle.tokens.specs.Token.{number_of}
use Rattle.tokens.specs.Stored.{operator_of}
use Rattle.tokens.specs.Stage.{thin}
use Rattle.tokens.specs.declared.operator.Operator as code
use Rattle.tokens.specs.declared.operator.Operator.TheVariants.{Adds, Takes, Multiplies, Divides, IsLess, Copies, Drops, Swaps, Defines, Repeats, When, Moves, Lines, Fills, ClipsBy, Greys, Shifts, Scales, Keeps, Back, Shows}
use Rattle.tokens.proofs.stage.ThinStage.does.Goals as goal

one_of : (op k : code.Operator) → op ≡ k → true ≡ thin (number_of (operator_of k)) → true ≡ thin (number_of (operator_of op))
one_of op k is does = does ∙ sym (ap (λ o. thin (number_of (operator_of o))) is)

pub returns-in-Moves : goal.returns-in-Moves
unfolding number_of
returns-in-Moves c =
    elim c.in-Moves.is [
      | inl m ↦ one_of _ Moves m refl
      | inr o ↦ (elim o [ inl l ↦ one_of _ Lines l refl | inr p ↦ (elim p [ inl f ↦ one_of _ Fills f refl | inr q ↦ (elim q [ inl g ↦ one_of _ Greys g refl | inr s ↦ one_of _ Shows s refl ]) ]) ])
    ]

no_other : (op : code.Operator) → (op ≡ Moves → ⊥) → (op ≡ Lines → ⊥) → (op ≡ Fills → ⊥) → (op ≡ Greys → ⊥) → (op ≡ Shows → ⊥) → false ≡ thin (number_of (operator_of op))
unfolding number_of
no_other Moves m l f g s = absurd (m refl)
no_other Lines m l f g s = absurd (l refl)
no_other Fills m l f g s = absurd (f refl)
no_other Greys m l f g s = absurd (g refl)
no_other Shows m l f g s = absurd (s refl)
no_other Adds m l f g s = refl
no_other Takes m l f g s = refl
no_other Multiplies m l f g s = refl
no_other Divides m l f g s = refl
no_other IsLess m l f g s = refl
no_other Copies m l f g s = refl
no_other Drops m l f g s = refl
no_other Swaps m l f g s = refl
no_other Defines m l f g s = refl
no_other Repeats m l f g s = refl
no_other When m l f g s = refl
no_other ClipsBy m l f g s = refl
no_other Shifts m l f g s = refl
no_other Scales m l f g s = refl
no_other Keeps m l f g s = refl
no_other Back m l f g s = refl

pub returns-in_default : goal.returns-in_default
returns-in_default c = let n = c.in_default in no_other _ n.not-Moves n.not-Lines n.not-Fills n.not-Greys n.not-Shows
