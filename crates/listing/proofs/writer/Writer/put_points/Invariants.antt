use Rattle.std.specs.List.{flat_map}
use Rattle.path.specs.Reading.{points_left}
use Rattle.listing.specs.Lines.{point_line}
use Rattle.listing.proofs.Putting.{Left}
use Rattle.listing.proofs.writer.Writer.put_points.Given as goal

abbrev pub invariant-loop-corner : goal.invariant-loop-corner
invariant-loop-corner l = Left (flat_map (point_line l.indent) (points_left l.corner-iterator)) l.self (flat_map (point_line l.indent) (points_left l.initial.corner-iterator)) l.initial.self
