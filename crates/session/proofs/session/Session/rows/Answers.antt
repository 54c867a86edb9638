use Rattle.std.proofs.Common.{sym, arith}
use Rattle.std.proofs.lemmas.List.{take_all}
use Rattle.session.proofs.session.Session.rows.Goals as goal

pub returns-else-n-self : goal.returns-else-n-self
returns-else-n-self c = sym (take_all c.args.n _ (omega arith))
