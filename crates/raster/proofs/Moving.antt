-- A picture moved by whole dots: every test of an edge compares the same two numbers, each with as much added.
use Rattle.std.proofs.Common.{◌≡◌, ℕ, suc, ◌+◌, ◌-◌, ◌*◌, ◌<◌, ◌≤◌, Bool, true, false, cond, ◌&&◌, ◌||◌, ltb, leb, List, [], ◌∷◌, map, sym, refl, ap, ◌∙◌, ap₂, inl, inr, arith}
use Rattle.std.proofs.lemmas.Bool.{le-leb, lt-leb, ltb-true, leb-true, leb-false, cases_Bool, and_parts}
use Rattle.path.specs.Path.{Point, Ring, Paint}
use Rattle.raster.specs.Coverage.{differ, rises, crosses, along, in_ring, in_path, in_all, covers, dot_on}
use Rattle.raster.specs.Laws.{moved_ring, moved, MovesWhole}

-- what is compared with as much added to both sides
leb-with : (m n s t k : ℕ) → s ≡ m + k → t ≡ n + k → leb s t ≡ leb m n
leb-with m n s t k e f =
    elim (cases_Bool (leb m n)) [
      | inl h ↦ le-leb s t (omega (arith, leb-true m n h)) ∙ sym h
      | inr h ↦ lt-leb s t (omega (arith, leb-false m n h)) ∙ sym h
    ]

and_under : (x y z : Bool) → (x ≡ true → y ≡ z) → (x && y) ≡ (x && z)
and_under true y z h = h refl
and_under false y z h = refl

abbrev moved_point : ℕ → ℕ → Point → Point
moved_point u v p = record { x = p.x + u; y = p.y + v }

-- the weights of the two ends add up to the edge's height, which is what the level's column is weighed by
weighed : (s t a u m n : ℕ) → leb ((s + u) * m + (t + u) * n) ((a + u) * (m + n)) ≡ leb (s * m + t * n) (a * (m + n))
weighed s t a u m n = leb-with _ _ _ _ (u * (m + n)) (omega arith) (omega arith)

less_moved : (m n v : ℕ) → m + v - (n + v) ≡ m - n
less_moved m n v = omega arith

between_ends : (p q a u l h b v : ℕ) → l ≤ b → b < h → leb ((p + u) * (h + v - (b + v)) + (q + u) * (b + v - (l + v))) ((a + u) * (h + v - (l + v))) ≡ leb (p * (h - b) + q * (b - l)) (a * (h - l))
between_ends p q a u l h b v i j =
    let e : h - l ≡ (h - b) + (b - l) = omega arith in
    simp (less_moved, e) (weighed p q a u (h - b) (b - l))

rises_moved : (p q : Point) (a b u v : ℕ) → rises (moved_point u v p) (moved_point u v q) (a + u) (b + v) ≡ rises p q a b
rises_moved p q a b u v =
    let s : leb (p.y + v) (b + v) ≡ leb p.y b = leb-with _ _ _ _ v refl refl in
    let t : ltb (b + v) (q.y + v) ≡ ltb b q.y = leb-with (suc b) q.y _ _ v (omega arith) refl in
    rw (s, t) (and_under _ _ _ (λ e. let f = and_parts _ _ e in between_ends p.x q.x a u p.y q.y b v (leb-true _ _ f.0) (ltb-true _ _ f.1)))

crosses_moved : (p q : Point) (a b u v : ℕ) → crosses (moved_point u v p) (moved_point u v q) (a + u) (b + v) ≡ crosses p q a b
crosses_moved p q a b u v = ap₂ ◌||◌ (rises_moved p q a b u v) (rises_moved q p a b u v)

along_moved : (f : Point) (ps : Ring) (l : Point) (a b u v : ℕ) → along (moved_point (16 * u) (16 * v) f) (moved_ring u v ps) (moved_point (16 * u) (16 * v) l) (a + 16 * u) (b + 16 * v) ≡ along f ps l a b
unfolding along moved_ring
along_moved f [] l a b u v = crosses_moved l f a b (16 * u) (16 * v)
along_moved f (p ∷ ps) l a b u v = ap₂ differ (crosses_moved l p a b (16 * u) (16 * v)) (along_moved f ps p a b u v)

in_ring_moved : (r : Ring) (a b u v : ℕ) → in_ring (moved_ring u v r) (a + 16 * u) (b + 16 * v) ≡ in_ring r a b
unfolding in_ring moved_ring
in_ring_moved [] a b u v = refl
in_ring_moved (p ∷ ps) a b u v = along_moved p ps p a b u v

in_path_moved : (rs : List Ring) (a b u v : ℕ) → in_path (map (moved_ring u v) rs) (a + 16 * u) (b + 16 * v) ≡ in_path rs a b
unfolding in_path
in_path_moved [] a b u v = refl
in_path_moved (r ∷ rs) a b u v = ap₂ differ (in_ring_moved r a b u v) (in_path_moved rs a b u v)

in_all_moved : (cs : List (List Ring)) (a b u v : ℕ) → in_all (map (λ c. map (moved_ring u v) c) cs) (a + 16 * u) (b + 16 * v) ≡ in_all cs a b
unfolding in_all
in_all_moved [] a b u v = refl
in_all_moved (c ∷ cs) a b u v = ap₂ ◌&&◌ (in_path_moved c a b u v) (in_all_moved cs a b u v)

middle_moved : (x u : ℕ) → 16 * (x + u) + 8 ≡ 16 * x + 8 + 16 * u
middle_moved x u = omega arith

covers_moved : (p : Paint) (x y u v : ℕ) → covers (moved u v p) (x + u) (y + v) ≡ covers p x y
unfolding moved
covers_moved p x y u v =
    rw (middle_moved x u, middle_moved y v)
    (ap₂ ◌&&◌ (in_path_moved p.path (16 * x + 8) (16 * y + 8) u v) (in_all_moved p.clips (16 * x + 8) (16 * y + 8) u v))

dot_on_moved : (ps : List Paint) (u v x y g : ℕ) → dot_on (map (moved u v) ps) (x + u) (y + v) g ≡ dot_on ps x y g
unfolding dot_on moved
dot_on_moved [] u v x y g = refl
dot_on_moved (p ∷ ps) u v x y g =
    ap (λ c. dot_on (map (moved u v) ps) (x + u) (y + v) (cond c p.grey g)) (covers_moved p x y u v)
    ∙ dot_on_moved ps u v x y (cond (covers p x y) p.grey g)

pub moves_whole : MovesWhole
moves_whole ps a b x y = dot_on_moved ps a b x y 255
