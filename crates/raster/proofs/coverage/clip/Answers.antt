use Rattle.std.proofs.Common.{◌+◌, ◌*◌, ◌&&◌, ap, ◌∙◌, arith}
use Rattle.bits.specs.Row.{bit_at}
use Rattle.path.specs.Reading.{rings_left, paths_left}
use Rattle.raster.specs.Coverage.{in_all}
use Rattle.raster.proofs.CrossLaws.{all_step, all_none, clipped_dot}
use Rattle.raster.proofs.coverage.clip.Goals as goal

pub loop-path-preserved : goal.loop-path-preserved
loop-path-preserved c = (
  λ x.
      all_step (rings_left c.in-Some.path) (paths_left c.next.new.self) (paths_left c.loop-path.path-iterator) (16 * x + 8) c.args.level _ _ c.in-Some.ensures.steps
      (c.keep_common.ensures.value x ∙ clipped_dot c.loop-path.row.words c.cover.new.row.words c.loop-path.row.low c.loop-path.row.high x _ c.loop-path.row.within (λ le lt. c.cover.ensures.value x (omega arith) (omega arith)))
      ∙ c.loop-path.invariant.0 x,
  omega arith,
  omega arith,
)

pub returns : goal.returns
returns c =
    let begun = ap paths_left c.into_iter-path-iterator.ensures.into_iter_gives ∙ c.new-path-items.ensures.paths in
    λ x.
    all_none (paths_left c.loop-path.path-iterator) (16 * x + 8) c.args.level (bit_at c.loop-path.row.words x) c.in-None.ensures.steps.0
    ∙ c.loop-path.invariant.0 x
    ∙ ap (λ cs. bit_at c.args.row.now.words x && in_all cs (16 * x + 8) c.args.level) begun
