use Rattle.std.proofs.Common.{eqb, w64, ap, arith}
use Rattle.std.proofs.lemmas.Nat.Bits.{bit_at-trailing_zeros}
use Rattle.bits.specs.Row.{bit}
use Rattle.bits.proofs.painting.clear_bits.Goals as goal

pub returns : goal.returns
unfolding bit
returns c =
    let place = bit_at-trailing_zeros w64 c.args.word (omega arith) (omega arith) in
    record { few = place.0; below = λ k lt. ap (λ n. eqb n 1) (place.2 k lt); at = ap (λ n. eqb n 1) place.1 }
