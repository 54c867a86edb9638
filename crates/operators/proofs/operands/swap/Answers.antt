use Rattle.std.proofs.Common.{List, ◌∷◌, set, sym, ap, ◌∙◌}
use Rattle.machine.specs.Machine.{State, Value, Went, on, with_stack, top_two, operate}
use Rattle.machine.specs.Abstraction.{state, value_of}
use Rattle.operators.proofs.operands.swap.Goals as goal

abbrev swapped : State → List Value → Went
swapped s vs = top_two s vs (λ a b us. on (with_stack s (a ∷ (b ∷ us))))

pub returns-in_default : goal.returns-in_default
unfolding operate top_two
returns-in_default g c = λ p t. sym (ap (swapped (state c.args.m.now p t)) c.in_default.ensures)

pub returns-in_default-operand_at : goal.returns-in_default-operand_at
unfolding operate top_two
returns-in_default-operand_at g c =
    let v = value_of c.in-Some.b in
    λ p t.
    let s = state c.args.m.now p t in
    sym (ap (swapped s) c.in-Some.ensures ∙ ap (λ vs. swapped s (v ∷ vs)) c.in_default-operand_at.ensures)

pub returns : goal.returns
unfolding operate top_two
returns g c =
    let m = c.args.m.now in
    let b = value_of c.in-Some.b in
    let a = value_of c.in-Some-operand_at.a in
    let two = c.in-Some.ensures ∙ ap (λ vs. b ∷ vs) c.in-Some-operand_at.ensures in
    λ p t.
    let s = state m p t in
    ap on (c.set_operand-2.ensures p t ∙ ap (λ x. with_stack x (set x.stack 1 b)) (c.set_operand.ensures p t) ∙ ap (λ vs. with_stack s (set (set vs 0 a) 1 b)) two) ∙ sym (ap (swapped s) two)
