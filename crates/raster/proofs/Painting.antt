-- The order of painting, and clips.
use Rattle.std.proofs.Common.{◌≡◌, ℕ, ◌+◌, ◌*◌, Bool, true, false, cond, ◌&&◌, List, [], ◌∷◌, ◌++◌, reverse, refl, ap, ◌∙◌}
use mathlib.Core.List.{reverse_aux}
use Rattle.std.proofs.lemmas.Bool.{true≢false}
use Rattle.path.specs.Path.{Ring, Paint}
use Rattle.raster.specs.Coverage.{in_path, in_all, covers, dot_on}
use Rattle.raster.specs.Laws.{MayBeExchanged, ClipNarrows}

either_first : (c d : Bool) (m n g : ℕ) → c && d ≡ false → cond d n (cond c m g) ≡ cond c m (cond d n g)
either_first true true m n g h = absurd (true≢false h)
either_first true false m n g h = refl
either_first false d m n g h = refl

exchanged_on : (ps qs : List Paint) (p q : Paint) (x y g : ℕ) → covers p x y && covers q x y ≡ false → dot_on (ps ++ (p ∷ (q ∷ qs))) x y g ≡ dot_on (ps ++ (q ∷ (p ∷ qs))) x y g
unfolding dot_on
exchanged_on [] qs p q x y g h = ap (dot_on qs x y) (either_first (covers p x y) (covers q x y) p.grey q.grey g h)
exchanged_on (r ∷ rs) qs p q x y g h = exchanged_on rs qs p q x y (cond (covers r x y) r.grey g) h

pub may_be_exchanged : MayBeExchanged
may_be_exchanged ps qs p q x y h = exchanged_on ps qs p q x y 255 h

and_last : (x y z : Bool) → (x && (y && z)) ≡ ((x && z) && y)
and_last true true true = refl
and_last true true false = refl
and_last true false true = refl
and_last true false false = refl
and_last false y z = refl

pub clip_narrows : ClipNarrows
unfolding in_all
clip_narrows path c cs g x y = and_last (in_path path (16 * x + 8) (16 * y + 8)) (in_path c (16 * x + 8) (16 * y + 8)) (in_all cs (16 * x + 8) (16 * y + 8))

and_first : (x y z : Bool) → (x && (y && z)) ≡ ((y && x) && z)
and_first true true z = refl
and_first true false z = refl
and_first false true z = refl
and_first false false z = refl

and_yes : (x : Bool) → (x && true) ≡ x
and_yes true = refl
and_yes false = refl

turned_onto : (cs ds : List (List Ring)) (a b : ℕ) → in_all (reverse_aux cs ds) a b ≡ (in_all cs a b && in_all ds a b)
unfolding in_all
turned_onto [] ds a b = refl
turned_onto (c ∷ cs) ds a b = turned_onto cs (c ∷ ds) a b ∙ and_first (in_all cs a b) (in_path c a b) (in_all ds a b)

-- clips may be taken in either order
pub clips_turned : (cs : List (List Ring)) (a b : ℕ) → in_all (reverse cs) a b ≡ in_all cs a b
unfolding in_all
clips_turned cs a b = turned_onto cs [] a b ∙ and_yes (in_all cs a b)
