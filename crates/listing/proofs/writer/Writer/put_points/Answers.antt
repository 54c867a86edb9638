use Rattle.std.proofs.Common.{ap}
use Rattle.std.specs.List.{flat_map}
use Rattle.path.specs.Points.{point_of}
use Rattle.path.specs.Reading.{points_left}
use Rattle.listing.specs.Lines.{point_line}
use Rattle.listing.proofs.Putting.{put_as, pieces_more, pieces_all}
use Rattle.listing.proofs.writer.Writer.put_points.Goals as goal

pub loop-corner-preserved : goal.loop-corner-preserved
loop-corner-preserved c = pieces_more (point_line c.args.indent) (point_of c.in-Some.corner) (points_left c.next.new.self) (points_left c.loop-corner.corner-iterator) c.in-Some.ensures.steps c.put_point.ensures c.loop-corner.invariant

pub returns : goal.returns
returns c =
    let all = pieces_all (point_line c.args.indent) (points_left c.loop-corner.corner-iterator) c.in-None.ensures.steps.0 c.loop-corner.invariant in
    put_as (ap (λ s. flat_map (point_line c.args.indent) (points_left s)) c.into_iter-corner-iterator.ensures.into_iter_gives) all
