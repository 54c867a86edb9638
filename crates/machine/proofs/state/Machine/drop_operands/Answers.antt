use Rattle.std.proofs.Common.{map, sym, ap, ◌∙◌}
use Rattle.std.proofs.lemmas.List.{drop-map}
use Rattle.stack.specs.Contents.{top_down}
use Rattle.machine.specs.Machine.{with_stack}
use Rattle.machine.specs.Abstraction.{state, value_of}
use Rattle.machine.proofs.state.Machine.drop_operands.Goals as goal

pub returns : goal.returns
returns g c =
    let m = c.args.self.now in
    λ p t. ap (with_stack (state m p t)) (ap (map value_of) c.drop_top.ensures ∙ sym (drop-map value_of c.args.n (top_down m.values.now)))
