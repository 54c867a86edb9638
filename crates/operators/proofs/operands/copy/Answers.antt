use Rattle.std.proofs.Common.{◌∷◌, sym, ap, ◌∙◌}
use Rattle.machine.specs.Machine.{push, top_one, operate}
use Rattle.machine.specs.Abstraction.{state, value_of}
use Rattle.operators.proofs.operands.copy.Goals as goal

pub returns-in_default : goal.returns-in_default
unfolding operate top_one
returns-in_default g c = λ p t. sym (ap (λ vs. top_one (state c.args.m.now p t) vs (λ a us. push (state c.args.m.now p t) (a ∷ us) a)) c.in_default.ensures)

pub returns : goal.returns
unfolding operate top_one
returns g c =
    let m = c.args.m.now in
    let v = value_of c.in-Some.v in
    λ p t.
    let s = state m p t in
    c.push_value.ensures p t ∙ ap (λ vs. push s vs v) c.in-Some.ensures ∙ sym (ap (λ vs. top_one s vs (λ a us. push s (a ∷ us) a)) c.in-Some.ensures)
