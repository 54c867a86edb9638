use Rattle.std.proofs.Common.{◌≡◌, ◌-◌, ◌*◌, ◌≤◌, [], ◌++◌, length, get_or, drop}
use Rattle.raster.specs.Coverage.{rows}
use Rattle.session.specs.Jobs.{Job, shown}
use Rattle.session.specs.Promise.{Serves}
use Rattle.session.specs.Regions.{Shaped, the_printer}
use Rattle.session.specs.Views.{regions_of, memory_of}
use Rattle.page_text.proofs.page.rows_between.Given as goal

-- the rows up to before row y stand in their places
abbrev pub invariant-loop-at : goal.invariant-loop-at
invariant-loop-at l =
    (l.from ≤ l.y) × (l.y ≤ l.to) × (l.at ≤ length l.out)
    × ((j : Job) → Shaped (regions_of l.initial.s) → Serves the_printer j (memory_of l.initial.s) →
    Shaped (regions_of l.s) × Serves the_printer j (memory_of l.s)
    × (l.width ≡ j.wide → (l.at ≡ (l.y - l.from) * j.wide) × (l.out ≡ rows (get_or (shown j) l.page []) j.wide l.from (l.y - l.from) ++ drop ((l.y - l.from) * j.wide) l.initial.out)))

abbrev pub decreases-loop-at : goal.decreases-loop-at
decreases-loop-at l = l.to - l.y
