use Rattle.path.proofs.BuildLaws.{total_is}
use Rattle.path.proofs.builder.Path.points.Goals as goal

pub returns : goal.returns
returns c = total_is c.args.self.now
