use Rattle.std.proofs.Common.{ap}
use Rattle.std.specs.List.{flat_map}
use Rattle.path.specs.Reading.{points_left, rings_left}
use Rattle.listing.specs.Lines.{subpath_lines, path_lines}
use Rattle.listing.proofs.Putting.{put_as, pieces_more, pieces_all}
use Rattle.listing.proofs.writer.Writer.put_path.Goals as goal

pub loop-points-preserved : goal.loop-points-preserved
loop-points-preserved c = pieces_more (subpath_lines c.args.indent) (points_left c.in-Some.points) (rings_left c.next.new.self) (rings_left c.loop-points.points-iterator) c.in-Some.ensures.steps c.put_subpath.ensures c.loop-points.invariant

pub returns : goal.returns
unfolding path_lines
returns c =
    let all = pieces_all (subpath_lines c.args.indent) (rings_left c.loop-points.points-iterator) c.in-None.ensures.steps.0 c.loop-points.invariant in
    put_as (ap (λ s. flat_map (subpath_lines c.args.indent) (rings_left s)) c.into_iter-points-iterator.ensures.into_iter_gives) all
