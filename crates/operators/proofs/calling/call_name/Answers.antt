use Rattle.std.proofs.Common.{◌≡◌, ℕ, List, [], ◌∷◌, sym, refl, ap, ◌∙◌, Bor}
use Rattle.machine.specs.Machine.{State, push, call}
use Rattle.machine.specs.Abstraction.{state, value_of}
use Rattle.machine.specs.declared.state.Value as code_value
use Rattle.operators.proofs.calling.call_name.Goals as goal

pub returns-in_default : goal.returns-in_default
unfolding call
returns-in_default g c = λ p t. sym (ap (call (state c.args.m.now p t)) c.in_default.ensures)

pub returns-in-Body : goal.returns-in-Body
unfolding call
returns-in-Body g c =
    λ p t.
    let s = state c.args.m.now p t in
    c.enter.ensures p t ∙ sym (ap (call s) c.in-Some.ensures ∙ ap (λ v. call s (value_of v ∷ [])) c.in-Body.is)

-- what is no body is put on the stack
pushed : (v : code_value.Value) (s : State) → ((b : Bor (List ℕ)) → v ≡ code_value.TheVariants.Body b → ⊥) → push s s.stack (value_of v) ≡ call s (value_of v ∷ [])
unfolding call
pushed (code_value.TheVariants.Number n) s other = refl
pushed (code_value.TheVariants.Body b) s other = absurd (other b refl)
pushed (code_value.TheVariants.Label k) s other = refl

pub returns-in_default-v : goal.returns-in_default-v
returns-in_default-v g c =
    λ p t.
    let s = state c.args.m.now p t in
    c.push_value.ensures p t ∙ pushed c.in-Some.v s c.in_default-v.not-Body ∙ sym (ap (call s) c.in-Some.ensures)
