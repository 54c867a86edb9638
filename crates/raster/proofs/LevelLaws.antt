-- Folds of levels, one piece more, and that nothing is covered outside of them.
use Rattle.std.proofs.Common.{◌≡◌, ℕ, ◌<◌, ◌≤◌, min, max, false, ◌&&◌, ◌⊎◌, List, [], ◌∷◌, fold, sym, refl, ap, ◌∙◌, inl, inr, arith}
use mathlib.Core.Bool.{and-false}
use Rattle.std.proofs.lemmas.Bool.{cases_lt}
use Rattle.path.specs.Path.{Point, Ring}
use Rattle.raster.specs.Coverage.{differ, along, in_ring, in_path, in_all}
use Rattle.raster.specs.Levels.{clips_top, clips_bottom}
use Rattle.path.specs.Extent.{ring_top, ring_bottom, path_top, path_bottom}
use Rattle.raster.proofs.EdgeLaws.{crosses_not_below, crosses_not_above}

-- one piece more of a fold, and its end
pub fold_more : {X : Type 0} (f : ℕ → X → ℕ) (t m : ℕ) (x : X) (xs all : List X) → all ≡ x ∷ xs → m ≡ f t x → fold f m xs ≡ fold f t all
fold_more f t m x xs all e h = ap (λ n. fold f n xs) h ∙ sym (ap (fold f t) e)

pub fold_all : {X : Type 0} (f : ℕ → X → ℕ) (t : ℕ) (all : List X) → all ≡ [] → t ≡ fold f t all
fold_all f t all e = sym (ap (fold f t) e)

-- a fold never passes where it began
ring_top_le : (t : ℕ) (ring : Ring) → ring_top t ring ≤ t
ring_top_le t [] = omega arith
ring_top_le t (p ∷ ps) = let h = ring_top_le (min t p.y) ps in omega arith

le_ring_bottom : (t : ℕ) (ring : Ring) → t ≤ ring_bottom t ring
le_ring_bottom t [] = omega arith
le_ring_bottom t (p ∷ ps) = let h = le_ring_bottom (max t p.y) ps in omega arith

path_top_le : (t : ℕ) (path : List Ring) → path_top t path ≤ t
path_top_le t [] = omega arith
path_top_le t (r ∷ rs) = let h = path_top_le (ring_top t r) rs in let g = ring_top_le t r in omega arith

le_path_bottom : (t : ℕ) (path : List Ring) → t ≤ path_bottom t path
le_path_bottom t [] = omega arith
le_path_bottom t (r ∷ rs) = let h = le_path_bottom (ring_bottom t r) rs in let g = le_ring_bottom t r in omega arith

-- nothing is crossed above all points, nor below them
along_over : (first last : Point) (ps : Ring) (t a b : ℕ) → b < first.y → b < last.y → b < ring_top t ps → along first ps last a b ≡ false
unfolding along
along_over first last [] t a b hf hl h = crosses_not_below last first a b hl hf
along_over first last (p ∷ ps) t a b hf hl h =
    let hp : b < p.y = omega (arith, ring_top_le (min t p.y) ps) in
    ap (λ c. differ c (along first ps p a b)) (crosses_not_below last p a b hl hp) ∙ along_over first p ps (min t p.y) a b hf hp h

along_under : (first last : Point) (ps : Ring) (t a b : ℕ) → first.y ≤ b → last.y ≤ b → ring_bottom t ps ≤ b → along first ps last a b ≡ false
unfolding along
along_under first last [] t a b hf hl h = crosses_not_above last first a b hl hf
along_under first last (p ∷ ps) t a b hf hl h =
    let hp : p.y ≤ b = omega (arith, le_ring_bottom (max t p.y) ps) in
    ap (λ c. differ c (along first ps p a b)) (crosses_not_above last p a b hl hp) ∙ along_under first p ps (max t p.y) a b hf hp h

ring_over : (ring : Ring) (t a b : ℕ) → b < ring_top t ring → in_ring ring a b ≡ false
unfolding in_ring
ring_over [] t a b h = refl
ring_over (p ∷ ps) t a b h = let hp : b < p.y = omega (arith, ring_top_le (min t p.y) ps) in along_over p p ps (min t p.y) a b hp hp h

ring_under : (ring : Ring) (t a b : ℕ) → ring_bottom t ring ≤ b → in_ring ring a b ≡ false
unfolding in_ring
ring_under [] t a b h = refl
ring_under (p ∷ ps) t a b h = let hp : p.y ≤ b = omega (arith, le_ring_bottom (max t p.y) ps) in along_under p p ps (max t p.y) a b hp hp h

pub path_over : (path : List Ring) (t a b : ℕ) → b < path_top t path → in_path path a b ≡ false
unfolding in_path
path_over [] t a b h = refl
path_over (r ∷ rs) t a b h =
    let hr : b < ring_top t r = omega (arith, path_top_le (ring_top t r) rs) in
    ap (λ c. differ c (in_path rs a b)) (ring_over r t a b hr) ∙ path_over rs (ring_top t r) a b h

pub path_under : (path : List Ring) (t a b : ℕ) → path_bottom t path ≤ b → in_path path a b ≡ false
unfolding in_path
path_under [] t a b h = refl
path_under (r ∷ rs) t a b h =
    let hr : ring_bottom t r ≤ b = omega (arith, le_path_bottom (ring_bottom t r) rs) in
    ap (λ c. differ c (in_path rs a b)) (ring_under r t a b hr) ∙ path_under rs (ring_bottom t r) a b h

-- above or below what all clips reach, either the level is outside already or some clip covers nothing
pub clips_over : (clips : List (List Ring)) (t a b : ℕ) → b < clips_top t clips → (b < t) ⊎ (in_all clips a b ≡ false)
unfolding in_all
clips_over [] t a b h = inl h
clips_over (c ∷ cs) t a b h =
    elim (clips_over cs (max t (path_top 16777216 c)) a b h) [
      | inl lt ↦
          elim (cases_lt b t) [
            | inl outside ↦ inl outside
            | inr inside ↦ inr (ap (λ v. v && in_all cs a b) (path_over c 16777216 a b (omega arith)))
          ]
      | inr none ↦ inr (ap (λ v. in_path c a b && v) none ∙ and-false (in_path c a b))
    ]

pub clips_under : (clips : List (List Ring)) (t a b : ℕ) → clips_bottom t clips ≤ b → (t ≤ b) ⊎ (in_all clips a b ≡ false)
unfolding in_all
clips_under [] t a b h = inl h
clips_under (c ∷ cs) t a b h =
    elim (clips_under cs (min t (path_bottom 0 c)) a b h) [
      | inl le ↦
          elim (cases_lt b t) [
            | inl inside ↦ inr (ap (λ v. v && in_all cs a b) (path_under c 0 a b (omega arith)))
            | inr outside ↦ inl outside
          ]
      | inr none ↦ inr (ap (λ v. in_path c a b && v) none ∙ and-false (in_path c a b))
    ]
