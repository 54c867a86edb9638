use Rattle.std.proofs.Common.{◌≡◌, ℕ, List, ◌∷◌, drop, sym, refl, ap, ◌∙◌}
use Rattle.machine.specs.Machine.{State, Value, ends, on, with_stack, bind, operate}
use Rattle.machine.specs.Abstraction.{state, stack_of, value_of}
use Rattle.machine.specs.declared.state.Value as code_value
use Rattle.operators.proofs.calling.define.Goals as goal

pub returns-in_default : goal.returns-in_default
unfolding operate bind
returns-in_default g c = λ p t. sym (ap (bind (state c.args.m.now p t)) c.in_default.ensures)

pub returns-in_default-operand_at : goal.returns-in_default-operand_at
unfolding operate bind
returns-in_default-operand_at g c =
    let v = value_of c.in-Some.v in
    λ p t.
    let s = state c.args.m.now p t in
    sym (ap (bind s) c.in-Some.ensures ∙ ap (λ vs. bind s (v ∷ vs)) c.in_default-operand_at.ensures)

-- under a value a quoted name is wanted
wrong_kind : (l : code_value.Value) (s : State) (v : Value) (vs : List Value) → ((k : ℕ) → l ≡ code_value.TheVariants.Label k → ⊥) → bind s (v ∷ (value_of l ∷ vs)) ≡ ends 2 s
unfolding bind
wrong_kind (code_value.TheVariants.Number n) s v vs other = refl
wrong_kind (code_value.TheVariants.Body b) s v vs other = refl
wrong_kind (code_value.TheVariants.Label k) s v vs other = absurd (other k refl)

pub returns-in_default-label : goal.returns-in_default-label
unfolding operate
returns-in_default-label g c =
    let v = value_of c.in-Some.v in
    λ p t.
    let s = state c.args.m.now p t in
    sym (ap (bind s) c.in-Some.ensures ∙ ap (λ vs. bind s (v ∷ vs)) c.in-Some-operand_at.ensures ∙ wrong_kind _ s v _ c.in_default-label.not-Label)

pub returns : goal.returns
unfolding operate bind
returns g c =
    let m = c.args.m.now in
    let v = value_of c.in-Some.v in
    let rest = drop 2 (stack_of m) in
    λ p t.
    let s = state m p t in
    ap on (c.drop_operands.ensures p t ∙ ap (λ x. with_stack x (drop 2 x.stack)) (c.bind.ensures p t))
    ∙ sym (ap (bind s) c.in-Some.ensures ∙ ap (λ vs. bind s (v ∷ vs)) c.in-Some-operand_at.ensures ∙ ap (λ l. bind s (v ∷ (value_of l ∷ rest))) c.in-Label.is)
