use Rattle.std.proofs.Common.{suc, ◌+◌, ◌*◌, sym, ap, ◌∙◌, arith}
use Rattle.bits.specs.Row.{bit_at, odd_below}
use Rattle.path.specs.Reading.{points_left, rings_left}
use Rattle.raster.specs.Coverage.{differ, in_path}
use Rattle.raster.proofs.CrossLaws.{path_step, path_none}
use Rattle.raster.proofs.crossing.cross_path.Goals as goal

pub loop-points-preserved : goal.loop-points-preserved
loop-points-preserved c = (
  λ x le lt.
      path_step (points_left c.in-Some.points) (rings_left c.next.new.self) (rings_left c.loop-points.points-iterator) (16 * x + 8) c.args.level _ _ c.in-Some.ensures.steps (c.cross_ring.ensures.value x le (omega arith)) ∙ c.loop-points.invariant.0 x le lt,
  omega arith,
)

pub returns : goal.returns
returns c =
    let begun = ap rings_left c.into_iter-points-iterator.ensures.into_iter_gives in
    record {
      value = λ x le lt.
          sym (ap (λ b. differ b (odd_below (bit_at c.loop-points.row.words) (suc x))) (path_none (rings_left c.loop-points.points-iterator) (16 * x + 8) c.args.level c.in-None.ensures.steps.0))
          ∙ c.loop-points.invariant.0 x le lt
          ∙ ap (λ r. differ (in_path r (16 * x + 8) c.args.level) (odd_below (bit_at c.args.row.now.words) (suc x))) begun;
      len = c.loop-points.invariant.1;
    }
