-- The numbers of operators are small.
use Rattle.std.proofs.Common.{◌<◌, arith}
use Rattle.tokens.specs.Token.{Operator, number_of, adds, takes, multiplies, divides, is_less, copies, drops, swaps, defines, repeats, when, moves, lines, fills, clips_by, greys, shifts, scales, keeps, back, shows}

pub operator_small : (k : Operator) → number_of k < 32
unfolding number_of
operator_small adds = omega arith
operator_small takes = omega arith
operator_small multiplies = omega arith
operator_small divides = omega arith
operator_small is_less = omega arith
operator_small copies = omega arith
operator_small drops = omega arith
operator_small swaps = omega arith
operator_small defines = omega arith
operator_small repeats = omega arith
operator_small when = omega arith
operator_small moves = omega arith
operator_small lines = omega arith
operator_small fills = omega arith
operator_small clips_by = omega arith
operator_small greys = omega arith
operator_small shifts = omega arith
operator_small scales = omega arith
operator_small keeps = omega arith
operator_small back = omega arith
operator_small shows = omega arith
