use Rattle.lexer.proofs.Widening.{wider_reads}
use Rattle.lexer.proofs.laws.wider_reads.Goals as goal

pub returns : goal.returns
returns c = wider_reads
