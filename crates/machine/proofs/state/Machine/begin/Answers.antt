use Rattle.std.proofs.Common.{List, [], ◌∷◌, map, ap, ◌∙◌}
use Rattle.tokens.specs.Stored.{decode}
use Rattle.machine.specs.Machine.{Frame}
use Rattle.machine.specs.Abstraction.{value_of, frame_of}
use Rattle.machine.proofs.Beginning.{nothing, same_begun}
use Rattle.machine.proofs.state.Machine.begin.Goals as goal

pub returns : goal.returns
returns g c =
    λ p a b.
    same_begun (ap (map value_of) c.clear.ensures) c.new.ensures a b c.new-2.ensures.manner c.new-2.ensures.saved
    (ap (map frame_of) c.push.ensures ∙ ap {B = List Frame} (λ l. record { rest = decode c.args.tokens.now; again = 0; whole = decode [] } ∷ map frame_of l) c.clear-2.ensures ∙ ap {B = List Frame} (λ x. record { rest = decode c.args.tokens.now; again = 0; whole = x } ∷ []) nothing)
