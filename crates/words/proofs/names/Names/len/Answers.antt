use Rattle.std.proofs.Common.{◌≡◌, length, take, ap, arith}
use Rattle.words.specs.Naming.{words_of}
use Rattle.words.proofs.Naming.{known_many, many}
use Rattle.words.proofs.names.Names.len.Goals as goal

pub returns : goal.returns
returns c =
    let n = c.args.self.now in
    let m = known_many n.words.now n.count (omega (arith, n.whole, n.fits)) in
    let same : length c.known.result.now ≡ length (words_of n) = omega (arith, ap length c.known.ensures, many (take n.count n.words.now)) in
    record { value = same; bound = omega (arith, n.fits) }
