use Rattle.std.proofs.Common.{◌≡◌, ℕ, ◌+◌, List, ◌∷◌, drop, refl, ap, ◌∙◌}
use Rattle.machine.specs.Machine.{State, Value, ends, with_one}
use Rattle.machine.specs.Abstraction.{OneOperand, stack_of, value_of}
use Rattle.machine.specs.declared.state.Value as code_value
use Rattle.machine.proofs.state.Machine.number_at.Goals as goal

pub returns-in_default : goal.returns-in_default
unfolding with_one
returns-in_default g c = λ s f. ap (λ vs. with_one s vs f) c.in_default.ensures

pub returns-in-Number : goal.returns-in-Number
unfolding with_one
returns-in-Number g c =
    let rest = drop (c.args.below + 1) (stack_of c.args.self.now) in
    λ s f. ap (λ vs. with_one s vs f) c.in-Some.ensures ∙ ap (λ v. with_one s (value_of v ∷ rest) f) c.in-Number.is

-- what is no number is of the wrong kind
wrong_kind : (v : code_value.Value) (s : State) (vs : List Value) (f : OneOperand) → ((n : ℕ) → v ≡ code_value.TheVariants.Number n → ⊥) → with_one s (value_of v ∷ vs) f ≡ ends 2 s
unfolding with_one
wrong_kind (code_value.TheVariants.Number n) s vs f other = absurd (other n refl)
wrong_kind (code_value.TheVariants.Body b) s vs f other = refl
wrong_kind (code_value.TheVariants.Label k) s vs f other = refl

pub returns-in_default-v : goal.returns-in_default-v
returns-in_default-v g c =
    let rest = drop (c.args.below + 1) (stack_of c.args.self.now) in
    λ s f. ap (λ vs. with_one s vs f) c.in-Some.ensures ∙ wrong_kind _ s rest f c.in_default-v.not-Number
