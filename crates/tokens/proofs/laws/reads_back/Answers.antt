use Rattle.tokens.proofs.Writing.{reads_back}
use Rattle.tokens.proofs.laws.reads_back.Goals as goal

pub returns : goal.returns
returns c = reads_back
