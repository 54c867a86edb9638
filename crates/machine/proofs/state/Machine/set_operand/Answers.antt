use Rattle.std.proofs.Common.{map, ap, ◌∙◌}
use Rattle.std.proofs.lemmas.List.{map-set}
use Rattle.stack.specs.Contents.{top_down}
use Rattle.machine.specs.Machine.{with_stack}
use Rattle.machine.specs.Abstraction.{state, value_of}
use Rattle.machine.proofs.state.Machine.set_operand.Goals as goal

pub returns : goal.returns
returns g c =
    let m = c.args.self.now in
    λ p t. ap (with_stack (state m p t)) (ap (map value_of) c.set.ensures ∙ map-set value_of (top_down m.values.now) c.args.below c.args.v)
