use Rattle.std.proofs.Common.{ltb, ap}
use Rattle.path.proofs.BuildLaws.{last_is}
use Rattle.path.proofs.builder.Path.is_open.Goals as goal

pub returns : goal.returns
returns c = ap (ltb 0) (last_is c.args.self.now)
