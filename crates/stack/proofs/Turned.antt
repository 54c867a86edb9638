-- The front of a list, turned round: what fewer items, and another item, leave of it.
use Rattle.std.proofs.Common.{◌≡◌, ℕ, suc, ◌+◌, ◌-◌, ◌<◌, ◌≤◌, List, [], ◌∷◌, ◌++◌, reverse, length, get_or, take, drop, set, sym, ap, ◌∙◌, inl, inr, arith}
use lib.ListN.{length-reverse}
use lib.Seq.{take-set-lt}
use Rattle.std.proofs.lemmas.List.{take_more_set, take-take, take-append-drop, append_assoc, reverse-append, length-take-le, length-drop, drop_all, drop_at, set_at, set_split, set-get_or}
use Rattle.std.proofs.lemmas.Bool.{cases_lt}

-- one item more
pub turned_push : {A : Type 0} (xs : List A) (h : ℕ) (v : A) → h < length xs → reverse (take (h + 1) (set xs h v)) ≡ v ∷ reverse (take h xs)
turned_push xs h v lt = ap reverse (take_more_set xs h v lt) ∙ reverse-append (take h xs) (v ∷ [])

-- all but the uppermost n
pub turned_drop : {A : Type 0} (xs : List A) (h n : ℕ) → h ≤ length xs → reverse (take (h - n) xs) ≡ drop n (reverse (take h xs))
turned_drop xs h n le =
    let l = length-take-le h xs le in
    elim (cases_lt h n) [
      | inl lt ↦ (let z : h - n ≡ 0 = omega arith in ap (λ k. reverse (take k xs)) z ∙ sym (drop_all n _ (omega (arith, length-reverse (take h xs)))))
      | inr ge ↦
          (let a = take (h - n) xs in
          let b = drop (h - n) (take h xs) in
          let front : take (h - n) (take h xs) ≡ a = take-take (h - n) h xs (omega arith) in
          let whole : a ++ b ≡ take h xs = ap (λ l. l ++ b) (sym front) ∙ take-append-drop (h - n) (take h xs) in
          let many : length (reverse b) ≡ n = omega (arith, length-reverse b, length-drop (h - n) (take h xs)) in
          sym (drop_at (reverse b) (reverse a) n many) ∙ ap (drop n) (sym (reverse-append a b) ∙ ap reverse whole))
    ]

reverse_around : {A : Type 0} (xs ys : List A) (x : A) → reverse (xs ++ (x ∷ ys)) ≡ reverse ys ++ (x ∷ reverse xs)
reverse_around xs ys x = reverse-append xs (x ∷ ys) ∙ ap (λ l. l ++ reverse xs) (reverse-append (x ∷ []) ys) ∙ append_assoc (reverse ys) (x ∷ []) (reverse xs)

reverse_set : {A : Type 0} (xs : List A) (i : ℕ) (v d : A) → i < length xs → reverse (set xs i v) ≡ set (reverse xs) (length xs - 1 - i) v
reverse_set xs i v d lt =
    let many : length (reverse (drop (suc i) xs)) ≡ length xs - 1 - i = omega (arith, length-reverse (drop (suc i) xs), length-drop (suc i) xs) in
    let whole : xs ≡ take i xs ++ (get_or xs i d ∷ drop (suc i) xs) = sym (set-get_or xs i d) ∙ set_split xs i (get_or xs i d) lt in
    ap reverse (set_split xs i v lt) ∙ reverse_around (take i xs) (drop (suc i) xs) v
    ∙ sym (ap (λ l. set (reverse l) (length xs - 1 - i) v) whole ∙ ap (λ l. set l (length xs - 1 - i) v) (reverse_around (take i xs) (drop (suc i) xs) (get_or xs i d)) ∙ set_at (reverse (drop (suc i) xs)) (get_or xs i d) (reverse (take i xs)) v (length xs - 1 - i) many)

-- another item i places below the top
pub turned_set : {A : Type 0} (xs : List A) (h i : ℕ) (v : A) → i < h → h ≤ length xs → reverse (take h (set xs (h - 1 - i) v)) ≡ set (reverse (take h xs)) i v
turned_set xs h i v lt le =
    let l = length-take-le h xs le in
    let k : length (take h xs) - 1 - (h - 1 - i) ≡ i = omega arith in
    ap reverse (take-set-lt h xs (h - 1 - i) v (omega arith)) ∙ reverse_set (take h xs) (h - 1 - i) v v (omega arith) ∙ ap (λ n. set (reverse (take h xs)) n v) k
