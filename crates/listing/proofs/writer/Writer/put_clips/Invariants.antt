use Rattle.std.specs.List.{flat_map}
use Rattle.path.specs.Reading.{paths_left}
use Rattle.listing.specs.Lines.{clip_lines}
use Rattle.listing.proofs.Putting.{Left}
use Rattle.listing.proofs.writer.Writer.put_clips.Given as goal

abbrev pub invariant-loop-path : goal.invariant-loop-path
invariant-loop-path l = Left (flat_map clip_lines (paths_left l.path-iterator)) l.self (flat_map clip_lines (paths_left l.initial.path-iterator)) l.initial.self
