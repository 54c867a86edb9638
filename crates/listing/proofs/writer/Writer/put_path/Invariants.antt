use Rattle.std.specs.List.{flat_map}
use Rattle.path.specs.Reading.{rings_left}
use Rattle.listing.specs.Lines.{subpath_lines}
use Rattle.listing.proofs.Putting.{Left}
use Rattle.listing.proofs.writer.Writer.put_path.Given as goal

abbrev pub invariant-loop-points : goal.invariant-loop-points
invariant-loop-points l = Left (flat_map (subpath_lines l.indent) (rings_left l.points-iterator)) l.self (flat_map (subpath_lines l.indent) (rings_left l.initial.points-iterator)) l.initial.self
