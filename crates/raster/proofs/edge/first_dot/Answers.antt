use Rattle.std.proofs.Common.{◌+◌, ◌-◌, ◌*◌, arith}
use Rattle.std.proofs.lemmas.Nat.{mul-le}
use Rattle.raster.proofs.EdgeLaws.{dot_reached}
use Rattle.raster.proofs.edge.first_dot.Goals as goal

pub returns : goal.returns
returns c x =
    let p = c.args.upper in
    let q = c.args.lower in
    let b = c.args.level in
    dot_reached (p.x * (q.y - b) + q.x * (b - p.y)) (q.y - p.y) x (omega arith)

-- each product is below 2 ^ 48
pub overflow_add-sum : goal.overflow_add-sum
overflow_add-sum c =
    let p = c.args.upper in
    let q = c.args.lower in
    let b = c.args.level in
    omega (arith, mul-le p.x (q.y - b) 16777216 16777216 (omega arith) (omega arith), mul-le q.x (b - p.y) 16777216 16777216 (omega arith) (omega arith))

pub overflow_add-result : goal.overflow_add-result
overflow_add-result c =
    let p = c.args.upper in
    let q = c.args.lower in
    let b = c.args.level in
    omega (arith, mul-le p.x (q.y - b) 16777216 16777216 (omega arith) (omega arith), mul-le q.x (b - p.y) 16777216 16777216 (omega arith) (omega arith))
