use Rattle.std.proofs.Common.{suc, ◌+◌, ◌*◌, ◌/◌, ap, ◌∙◌, arith}
use Rattle.bits.specs.Row.{bit_at}
use Rattle.bits.proofs.RowLaws.{odd_none, bit_unset}
use Rattle.path.specs.Reading.{rings_left}
use Rattle.raster.specs.Coverage.{differ, in_path}
use Rattle.raster.proofs.CrossLaws.{differ_false}
use Rattle.raster.proofs.coverage.cover.Goals as goal

-- an empty row has no odd place, so the parity is that of the path alone
pub returns : goal.returns
returns c =
    let empty = c.clear.ensures.empty in
    record {
      value = λ x le lt.
          c.sweep.ensures.value x (omega arith)
          ∙ c.cross_path.ensures.value x le (omega arith)
          ∙ ap (differ (in_path (rings_left c.args.path) (16 * x + 8) c.args.level)) (odd_none (bit_at c.clear.new.self.words) (suc x) (λ k less. bit_unset c.clear.new.self.words k (empty (k / 64))))
          ∙ differ_false (in_path (rings_left c.args.path) (16 * x + 8) c.args.level);
      len = omega arith;
    }
