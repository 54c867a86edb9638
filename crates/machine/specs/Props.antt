-- What is said of kept states is a fact, and no data: a ghost field may hold it.
use Rattle.std.proofs.Common.{ℕ, List, [], ◌∷◌}
use Rattle.std.specs.Coded.{le_prop, Coded-set, coded_list, coded_ℕ}
use mathlib.Core.HLevel.{×_prop, Unit-prop}
use Rattle.machine.specs.Clips.{Well, Kept}
use Rattle.machine.specs.declared.graphics.GraphicsState.{GraphicsState}

well_prop : (ws : List ℕ) (g : GraphicsState) → IsProp (Well ws g)
well_prop ws g = Prim.hlevel (le_prop, Coded-set coded_ℕ, Coded-set (coded_list coded_ℕ))

pub kept_prop : (ws : List ℕ) (n : ℕ) (gs : List GraphicsState) → IsProp (Kept ws n gs)
kept_prop ws n [] = Unit-prop
kept_prop ws n (g ∷ gs) = ×_prop (le_prop) (×_prop (well_prop ws g) (kept_prop ws g.clips gs))
