-- How paths and lists of clips stand in words, for any words whatsoever. Cited by the iterators, by what builds a path, and by all who read one. Assumes nothing: these are definitions.
use Rattle.std.specs.Prelude.{ℕ, zero, suc, ◌*◌, ◌%◌, Bool, true, false, ◌&&◌, List, [], ◌∷◌, map, length, take, drop, nat_le}
use Rattle.path.specs.Path.{Ring}

-- two words a point, x and then y, cut to 24 bits; a last odd word is no point
unfoldable pub points_in : List ℕ → Ring
points_in [] = []
points_in (x ∷ []) = []
points_in (x ∷ (y ∷ ws)) = record { x = x % 16777216; y = y % 16777216 } ∷ points_in ws

-- pieces one after another, each a word with its count and then `size` words for each counted thing; the last is cut to what is there.
-- Each piece takes at least one word, so as many rounds as there are words reach the end
unfoldable pub pieces_by : ℕ → ℕ → List ℕ → List (List ℕ)
pieces_by zero size ws = []
pieces_by (suc rounds) size [] = []
pieces_by (suc rounds) size (count ∷ ws) = take (size * count) ws ∷ pieces_by rounds size (drop (size * count) ws)

unfoldable pub pieces : ℕ → List ℕ → List (List ℕ)
pieces size ws = pieces_by (length ws) size ws

-- a path: subpaths, each with how many points it has
unfoldable pub rings_in : List ℕ → List Ring
rings_in ws = map points_in (pieces 2 ws)

-- clips: paths, each with how many words it has
unfoldable pub paths_in : List ℕ → List (List Ring)
paths_in ws = map rings_in (pieces 1 ws)

-- whether a path's last subpath ends where the words do: then more subpaths may follow
unfoldable pub complete_by : ℕ → List ℕ → Bool
complete_by rounds [] = true
complete_by zero (count ∷ ws) = false
complete_by (suc rounds) (count ∷ ws) = nat_le (2 * count) (length ws) && complete_by rounds (drop (2 * count) ws)

unfoldable pub complete : List ℕ → Bool
complete ws = complete_by (length ws) ws
