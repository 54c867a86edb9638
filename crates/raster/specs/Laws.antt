-- Laws of coverage, each a statement whose proof is owed where a function's contract names it. Assumes nothing: these are definitions.
use Rattle.std.specs.Prelude.{◌≡◌, ℕ, ◌+◌, ◌*◌, false, ◌&&◌, List, [], ◌∷◌, ◌++◌, map}
use Rattle.path.specs.Path.{Point, Ring, Paint}
use Rattle.raster.specs.Coverage.{differ, in_ring, in_path, covers, dot}

-- a ring covers the same dots from whichever point it begins and whichever way round it goes
unfoldable pub reversed : Ring → Ring
reversed [] = []
reversed (p ∷ ps) = reversed ps ++ (p ∷ [])

abbrev pub AnyBeginning : Type 0
AnyBeginning = (p : Point) (ps : Ring) (a b : ℕ) → in_ring (ps ++ (p ∷ [])) a b ≡ in_ring (p ∷ ps) a b

abbrev pub EitherWay : Type 0
EitherWay = (r : Ring) (a b : ℕ) → in_ring (reversed r) a b ≡ in_ring r a b

-- two rings that share an edge between two points: a dot is in just one of them if it is in the ring around both, in both or none if not
abbrev pub SharedWay : Type 0
SharedWay =
    (p q : Point) (ps qs : Ring) (a b : ℕ) →
    differ (in_ring (p ∷ (ps ++ (q ∷ []))) a b) (in_ring (q ∷ (qs ++ (p ∷ []))) a b) ≡ in_ring (p ∷ (ps ++ (q ∷ qs))) a b

-- a picture moved by whole dots is the same picture there
unfoldable pub moved_ring : ℕ → ℕ → Ring → Ring
moved_ring a b [] = []
moved_ring a b (p ∷ ps) = record { x = p.x + 16 * a; y = p.y + 16 * b } ∷ moved_ring a b ps

unfoldable pub moved : ℕ → ℕ → Paint → Paint
moved a b p = record { path = map (moved_ring a b) p.path; clips = map (λ c. map (moved_ring a b) c) p.clips; grey = p.grey }

abbrev pub MovesWhole : Type 0
MovesWhole = (ps : List Paint) (a b x y : ℕ) → dot (map (moved a b) ps) (x + a) (y + b) ≡ dot ps x y

-- two things next to each other in the order of painting may be exchanged if no dot is covered by both
abbrev pub MayBeExchanged : Type 0
MayBeExchanged =
    (ps qs : List Paint) (p q : Paint) (x y : ℕ) → covers p x y && covers q x y ≡ false →
    dot (ps ++ (p ∷ (q ∷ qs))) x y ≡ dot (ps ++ (q ∷ (p ∷ qs))) x y

-- what is painted under a clip is painted where it would be without it, and nowhere outside the clip
abbrev pub ClipNarrows : Type 0
ClipNarrows =
    (path : List Ring) (c : List Ring) (cs : List (List Ring)) (g x y : ℕ) →
    covers (record { path = path; clips = c ∷ cs; grey = g }) x y
    ≡ (covers (record { path = path; clips = cs; grey = g }) x y && in_path c (16 * x + 8) (16 * y + 8))
