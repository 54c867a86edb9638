use Rattle.std.proofs.Common.{suc, ◌+◌, ◌*◌, ◌∷◌, sym, ap, ◌∙◌, arith}
use Rattle.bits.specs.Row.{bit_at, odd_below}
use Rattle.path.specs.Points.{point_of}
use Rattle.path.specs.Reading.{points_left}
use Rattle.raster.specs.Coverage.{differ}
use Rattle.raster.proofs.CrossLaws.{along_step, along_end, ring_begin, ring_none}
use Rattle.raster.proofs.crossing.cross_ring.Goals as goal

pub returns-in_default : goal.returns-in_default
returns-in_default c =
    record {
      value = λ x le lt. sym (ap (λ b. differ b (odd_below (bit_at c.args.row.now.words) (suc x))) (ring_none (points_left c.args.points) (16 * x + 8) c.args.level c.in_default.ensures.steps.0));
      len = omega arith;
    }

pub loop-next-preserved : goal.loop-next-preserved
loop-next-preserved c = (
  λ x le lt.
      along_step (point_of c.in-Some.first) (point_of c.in-Some-next.next) (point_of c.loop-next.last) (points_left c.next-in-loop-next.new.self) (points_left c.loop-next.next-iterator) (16 * x + 8) c.args.level _ _ c.in-Some-next.ensures.steps
      (c.cross.ensures.value x le (omega arith))
      ∙ c.loop-next.invariant.0 x le lt,
  omega arith,
)

pub returns : goal.returns
returns c =
    let begun = ap (λ s. point_of c.in-Some.first ∷ points_left s) c.into_iter-next-iterator.ensures.into_iter_gives in
    record {
      value = λ x le lt.
          c.cross-2.ensures.value x le (omega arith)
          ∙ ap (λ b. differ b (odd_below (bit_at c.loop-next.row.words) (suc x))) (along_end (point_of c.in-Some.first) (point_of c.loop-next.last) (points_left c.loop-next.next-iterator) (16 * x + 8) c.args.level c.in-None.ensures.steps.0)
          ∙ c.loop-next.invariant.0 x le lt
          ∙ ap (λ b. differ b (odd_below (bit_at c.args.row.now.words) (suc x))) (ring_begin (point_of c.in-Some.first) _ (points_left c.args.points) (16 * x + 8) c.args.level (c.in-Some.ensures.steps ∙ sym begun));
      len = omega arith;
    }
