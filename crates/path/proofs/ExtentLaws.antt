-- Folds over the points of a path: one piece more as it is read, and one point more as it is built.
use Rattle.std.proofs.Common.{◌≡◌, ℕ, List, [], ◌∷◌, ◌++◌, fold, sym, ap, ◌∙◌}
use Rattle.std.proofs.lemmas.List.Sums.{fold_push}
use Rattle.path.specs.Path.{Point, Ring}

-- one piece more of a fold, and its end
pub fold_more : {X : Type 0} (f : ℕ → X → ℕ) (t m : ℕ) (x : X) (xs all : List X) → all ≡ x ∷ xs → m ≡ f t x → fold f m xs ≡ fold f t all
fold_more f t m x xs all e h = ap (λ n. fold f n xs) h ∙ sym (ap (fold f t) e)

pub fold_all : {X : Type 0} (f : ℕ → X → ℕ) (t : ℕ) (all : List X) → all ≡ [] → t ≡ fold f t all
fold_all f t all e = sym (ap (fold f t) e)

-- a fold over all points of a path
abbrev pub reach : (ℕ → Point → ℕ) → ℕ → List Ring → ℕ
reach f t path = fold (fold f) t path

-- with a subpath begun, and with a point added to the last subpath, the last point comes last
pub reach_begun : (f : ℕ → Point → ℕ) (t : ℕ) (rs : List Ring) (p : Point) → reach f t (rs ++ ((p ∷ []) ∷ [])) ≡ f (reach f t rs) p
reach_begun f t rs p = fold_push (fold f) t rs (p ∷ [])

pub reach_added : (f : ℕ → Point → ℕ) (t : ℕ) (rs : List Ring) (r : Ring) (p : Point) → reach f t (rs ++ ((r ++ (p ∷ [])) ∷ [])) ≡ f (reach f t (rs ++ (r ∷ []))) p
reach_added f t rs r p = fold_push (fold f) t rs (r ++ (p ∷ [])) ∙ fold_push f (reach f t rs) r p ∙ ap (λ n. f n p) (sym (fold_push (fold f) t rs r))
