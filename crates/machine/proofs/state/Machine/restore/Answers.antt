use Rattle.std.proofs.Common.{sym, ap, ◌∙◌}
use Rattle.machine.specs.Machine.{ends, with_manner, back_to, operate}
use Rattle.machine.specs.Abstraction.{state, manner_of, saved_of}
use Rattle.machine.proofs.state.Machine.restore.Goals as goal

pub returns : goal.returns
unfolding operate back_to
returns g c = λ p t. sym (ap (back_to (state c.args.self.now p t)) c.in-Some.ensures.some)

pub returns-in_default : goal.returns-in_default
unfolding operate back_to
returns-in_default g c =
    λ p t.
    let s = state c.args.self.now p t in
    ap (λ d. ends 6 (with_manner s (manner_of d) (saved_of d))) c.in_default.ensures.none.1 ∙ sym (ap (back_to s) c.in_default.ensures.none.0)
