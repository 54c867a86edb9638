use Rattle.lexer.proofs.Widening.{first_stage_kept}
use Rattle.lexer.proofs.laws.first_stage_kept.Goals as goal

pub returns : goal.returns
returns c = first_stage_kept
