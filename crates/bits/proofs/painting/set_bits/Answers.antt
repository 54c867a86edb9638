use Rattle.std.proofs.Common.{arith}
use Rattle.bits.proofs.PaintLaws.{set_run}
use Rattle.bits.proofs.painting.set_bits.Goals as goal

pub returns : goal.returns
returns c =
    let place = set_run c.args.word c.trailing_ones.result (omega arith) c.trailing_ones.ensures in
    record { few = place.0; below = place.1; at = place.2 }
