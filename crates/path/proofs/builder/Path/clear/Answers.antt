use Rattle.std.proofs.Common.{arith, rules}
use Rattle.path.proofs.StoredLaws.{rings_none, points_none}
use Rattle.path.proofs.BuildLaws.{kept, laid_none, spans_of, spans_none}
use Rattle.path.proofs.builder.Path.clear.Goals as goal

pub invariant_of-self : goal.invariant_of-self
invariant_of-self c =
    let p = c.args.self.now in
    let ws = p.words.now in
    let none = c.none-self.result in
    let e = c.none-self.ensures in
    kept ws 0 0 0 none p.built (laid_none ws none.used e.used p.room) (spans_none ws none e.used e.extent) (spans_of p) (λ some. omega arith)

pub returns : goal.returns
returns c = record { rings = rings_none; ring = points_none; same = search rules; lent = search rules }
