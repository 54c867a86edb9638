use Rattle.tokens.proofs.Decoding.{stored_reads_back}
use Rattle.tokens.proofs.laws.stored_reads_back.Goals as goal

pub returns : goal.returns
returns c = stored_reads_back
