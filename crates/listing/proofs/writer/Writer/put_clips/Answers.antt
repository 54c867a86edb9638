use Rattle.std.proofs.Common.{ap}
use Rattle.std.specs.List.{flat_map}
use Rattle.path.specs.Reading.{paths_left, rings_left}
use Rattle.listing.specs.Lines.{clip_lines}
use Rattle.listing.proofs.Putting.{put_as, pieces_more, pieces_all}
use Rattle.listing.proofs.writer.Writer.put_clips.Goals as goal

pub loop-path-preserved : goal.loop-path-preserved
loop-path-preserved c = pieces_more clip_lines (rings_left c.in-Some.path) (paths_left c.next.new.self) (paths_left c.loop-path.path-iterator) c.in-Some.ensures.steps c.put_clip.ensures c.loop-path.invariant

pub returns : goal.returns
returns c =
    let all = pieces_all clip_lines (paths_left c.loop-path.path-iterator) c.in-None.ensures.steps.0 c.loop-path.invariant in
    put_as (ap (λ s. flat_map clip_lines (paths_left s)) c.into_iter-path-iterator.ensures.into_iter_gives) all
