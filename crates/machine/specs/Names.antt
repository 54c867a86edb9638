-- The names that are bound, over plain lists: which names a row has, that it has none twice, and how many names are still free. Cited by the machine's invariant. Assumes nothing: these are definitions.
use Rattle.std.specs.Prelude.{ℕ, ◌+◌, Bool, true, false, cond, not, ◌&&◌, List, [], ◌∷◌, map, ◌==◌, Option, Some, None}

-- which places of a row have a value
abbrev pub is_some : {A : Type 0} → Option A → Bool
is_some None = false
is_some (Some v) = true

abbrev pub flags : {A : Type 0} → List (Option A) → List Bool
flags vs = map is_some vs

unfoldable pub listed : ℕ → List ℕ → Bool
listed k [] = false
listed k (n ∷ ns) = cond (n == k) true (listed k ns)

unfoldable pub distinct : List ℕ → Bool
distinct [] = true
distinct (n ∷ ns) = not (listed n ns) && distinct ns

-- how many flags are not set
unfoldable pub unset : List Bool → ℕ
unset [] = 0
unset (b ∷ bs) = cond b 0 1 + unset bs
