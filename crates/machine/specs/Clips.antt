-- Clips as they stand in words, one after another, the oldest first, over plain lists. Cited by the machine's invariant. Assumes nothing: these are definitions.
use Rattle.std.specs.Prelude.{◌≡◌, ℕ, ◌+◌, ◌*◌, ◌≤◌, List, [], ◌∷◌, ◌++◌, reverse, length, take}
use Rattle.path.specs.Path.{Ring}
use Rattle.path.specs.Stored.{pieces, paths_in}
use Rattle.machine.specs.Machine.{points_in_all}
use Rattle.machine.specs.declared.graphics.GraphicsState.{GraphicsState}

-- the written machine has the last one first
unfoldable pub clips_in : List ℕ → List (List Ring)
clips_in ws = reverse (paths_in ws)

-- paths by their words, each behind its count
unfoldable pub clip_words : List (List ℕ) → List ℕ
clip_words [] = []
clip_words (c ∷ cs) = length c ∷ (c ++ clip_words cs)

-- what clips count for: one for each path, and one for each point
unfoldable pub weight_in : List ℕ → ℕ
weight_in ws = points_in_all (clips_in ws) + length (clips_in ws)

-- the first n words are whole clips, of this weight, and no more than clips of that weight take
abbrev pub Whole : List ℕ → ℕ → Type 0
Whole ws n = clip_words (pieces 1 (take n ws)) ≡ take n ws

abbrev pub Weighs : List ℕ → ℕ → ℕ → Type 0
Weighs ws n weight = weight ≡ weight_in (take n ws)

abbrev pub Light : ℕ → ℕ → Type 0
Light n weight = (n ≤ 3 * weight) × (weight ≤ 1024)

-- the clips of a graphics state in those words
pub record Well (ws : List ℕ) (g : GraphicsState) : Type 0 where
  pub fits : g.clips ≤ length ws
  pub front : Whole ws g.clips
  pub weighs : Weighs ws g.clips g.weight
  pub light : Light g.clips g.weight

-- and of kept states, the last one first: each has a front part of the clips of the one before it, and the first one of the first n words
abbrev pub Kept : List ℕ → ℕ → List GraphicsState → Type 0
Kept ws n [] = Unit {0}
Kept ws n (g ∷ gs) = (g.clips ≤ n) × (Well ws g × Kept ws g.clips gs)
