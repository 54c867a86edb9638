use Rattle.std.proofs.Common.{sym, ap, ◌∙◌}
use Rattle.machine.specs.Machine.{on, with_stack, top_one, operate}
use Rattle.machine.specs.Abstraction.{state}
use Rattle.operators.proofs.operands.discard.Goals as goal

pub returns-in_default : goal.returns-in_default
unfolding operate top_one
returns-in_default g c = λ p t. sym (ap (λ vs. top_one (state c.args.m.now p t) vs (λ a us. on (with_stack (state c.args.m.now p t) us))) c.in_default.ensures)

pub returns : goal.returns
unfolding operate top_one
returns g c =
    λ p t.
    let s = state c.args.m.now p t in
    ap on (c.drop_operands.ensures p t) ∙ sym (ap (λ vs. top_one s vs (λ a us. on (with_stack s us))) c.in-Some.ensures)
