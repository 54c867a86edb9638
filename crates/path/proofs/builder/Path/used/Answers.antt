use Rattle.std.proofs.Common.{arith}
use Rattle.path.proofs.BuildLaws.{laid_of, rings_front, total_is}
use Rattle.path.proofs.builder.Path.used.Goals as goal

pub returns : goal.returns
returns c =
    let p = c.args.self.now in
    let t = total_is p in
    record { value = rings_front p.words.now p.start p.last p.built.used p.total (laid_of p); len = omega arith; few = omega arith; short = omega arith }
