use Rattle.std.proofs.Common.{◌≡◌}
use Rattle.path.specs.Reading.{paths_left}
use Rattle.raster.specs.Levels.{clips_top, clips_bottom}
use Rattle.raster.proofs.levels.narrowed.Given as goal

abbrev pub invariant-loop-path : goal.invariant-loop-path
invariant-loop-path l =
    (clips_top l.top (paths_left l.path-iterator) ≡ clips_top l.initial.top (paths_left l.initial.path-iterator))
    × (clips_bottom l.bottom (paths_left l.path-iterator) ≡ clips_bottom l.initial.bottom (paths_left l.initial.path-iterator))
