use Rattle.std.proofs.Common.{◌≡◌}
use Rattle.path.specs.Reading.{points_left}
use Rattle.path.specs.Extent.{ring_top, ring_bottom}
use Rattle.path.proofs.extent.with_subpath.Given as goal

abbrev pub invariant-loop-corner : goal.invariant-loop-corner
invariant-loop-corner l =
    (ring_top l.reached.top (points_left l.corner-iterator) ≡ ring_top l.initial.reached.top (points_left l.initial.corner-iterator))
    × (ring_bottom l.reached.bottom (points_left l.corner-iterator) ≡ ring_bottom l.initial.reached.bottom (points_left l.initial.corner-iterator))
