use Rattle.lexer.proofs.Spacing.{spaces_free}
use Rattle.lexer.proofs.laws.spaces_free.Goals as goal

pub returns : goal.returns
returns c = spaces_free
