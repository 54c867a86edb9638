-- Which dots a path covers, and the dots of a row. Points are in sixteenths of a dot; a dot is covered if its middle is. Cited by every contract of this crate. Assumes nothing: these are definitions.
use Rattle.std.specs.Prelude.{ℕ, zero, suc, ◌+◌, ◌-◌, ◌*◌, Bool, true, false, cond, not, ◌&&◌, ◌||◌, List, [], ◌∷◌, ◌++◌, nat_le, nat_lt}
use Rattle.path.specs.Path.{Point, Ring, Paint}

-- exclusive or
abbrev pub differ : Bool → Bool → Bool
differ true b = not b
differ false b = b

-- whether the edge from p down to q crosses the level b at a or to the left of it. y grows downwards: the upper end p is on the level, the lower end q is not
abbrev pub rises : Point → Point → ℕ → ℕ → Bool
rises p q a b =
    (nat_le p.y b && nat_lt b q.y) && nat_le (p.x * (q.y - b) + q.x * (b - p.y)) (a * (q.y - p.y))

-- the same for an edge that goes either up or down; a horizontal edge crosses nothing
abbrev pub crosses : Point → Point → ℕ → ℕ → Bool
crosses p q a b = rises p q a b || rises q p a b

-- the parity of the crossings of a ring, which goes back from its last point to its first
unfoldable pub along : Point → Ring → Point → ℕ → ℕ → Bool
along first [] last a b = crosses last first a b
along first (p ∷ ps) last a b = differ (crosses last p a b) (along first ps p a b)

unfoldable pub in_ring : Ring → ℕ → ℕ → Bool
in_ring [] a b = false
in_ring (p ∷ ps) a b = along p ps p a b

unfoldable pub in_path : List Ring → ℕ → ℕ → Bool
in_path [] a b = false
in_path (r ∷ rs) a b = differ (in_ring r a b) (in_path rs a b)

unfoldable pub in_all : List (List Ring) → ℕ → ℕ → Bool
in_all [] a b = true
in_all (c ∷ cs) a b = in_path c a b && in_all cs a b

-- whether a thing painted covers the dot in column x of row y: its middle is in the path and in every clip
abbrev pub covers : Paint → ℕ → ℕ → Bool
covers p x y = in_path p.path (16 * x + 8) (16 * y + 8) && in_all p.clips (16 * x + 8) (16 * y + 8)

-- a dot is as the last thing that covers it says, or white
unfoldable pub dot_on : List Paint → ℕ → ℕ → ℕ → ℕ
dot_on [] x y g = g
dot_on (p ∷ ps) x y g = dot_on ps x y (cond (covers p x y) p.grey g)

abbrev pub dot : List Paint → ℕ → ℕ → ℕ
dot ps x y = dot_on ps x y 255

-- row y of a page w dots wide, and n rows from row y on
unfoldable pub row : List Paint → ℕ → ℕ → List ℕ
row ps zero y = []
row ps (suc w) y = row ps w y ++ (dot ps w y ∷ [])

unfoldable pub rows : List Paint → ℕ → ℕ → ℕ → List ℕ
rows ps w y zero = []
rows ps w y (suc n) = row ps w y ++ rows ps w (suc y) n
