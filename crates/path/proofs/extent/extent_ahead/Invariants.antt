use Rattle.std.proofs.Common.{◌≡◌}
use Rattle.path.specs.Reading.{rings_left}
use Rattle.path.specs.Extent.{path_top, path_bottom}
use Rattle.path.proofs.extent.extent_ahead.Given as goal

abbrev pub invariant-loop-points : goal.invariant-loop-points
invariant-loop-points l =
    (path_top l.reached.top (rings_left l.points-iterator) ≡ path_top l.initial.reached.top (rings_left l.initial.points-iterator))
    × (path_bottom l.reached.bottom (rings_left l.points-iterator) ≡ path_bottom l.initial.reached.bottom (rings_left l.initial.points-iterator))
