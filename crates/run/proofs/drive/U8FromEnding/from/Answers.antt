use Rattle.std.proofs.Common.{arith}
use Rattle.tokens.specs.Stored.{operator_of}
use Rattle.run.proofs.Numbers.{operator_small}
use Rattle.run.proofs.drive.U8FromEnding.from.Goals as goal

pub overflow_add-result : goal.overflow_add-result
overflow_add-result c = let n = operator_small (operator_of c.in-Unsupported.op) in omega (arith, c.from-in-Unsupported.ensures)
