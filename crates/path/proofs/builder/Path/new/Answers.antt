use Rattle.std.proofs.Common.{rules}
use Rattle.path.proofs.StoredLaws.{rings_none, points_none}
use Rattle.path.proofs.BuildLaws.{kept, laid_none, spans_none}
use Rattle.path.proofs.builder.Path.new.Goals as goal

pub invariant_of-result : goal.invariant_of-result
invariant_of-result c =
    let ws = c.args.words.now in
    let a = c.none.ensures in
    let b = c.none-2.ensures in
    kept ws 0 0 0 c.none.result c.none-2.result (laid_none ws c.none.result.used a.used c.requires) (spans_none ws c.none.result a.used a.extent) (spans_none ws c.none-2.result b.used b.extent) (λ some. b.used)

pub returns : goal.returns
returns c = record { rings = rings_none; ring = points_none; same = search rules; lent = search rules }
