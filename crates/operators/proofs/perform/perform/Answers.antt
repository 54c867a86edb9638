use Rattle.std.proofs.Common.{◌≡◌, true, subst}
use Rattle.tokens.specs.Token.{number_of}
use Rattle.tokens.specs.Stored.{operator_of}
use Rattle.operators.proofs.perform.perform.Goals as goal

-- a stage that does this operator clips
pub clip-requires : goal.clip-requires
unfolding number_of
clip-requires g c = subst (λ op. g.S.Stage.can (number_of (operator_of op)) ≡ true) c.in-ClipsBy.is c.requires
