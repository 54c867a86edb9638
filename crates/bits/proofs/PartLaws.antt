-- What a list holds after a write to a part of it, place by place.
use Rattle.std.proofs.Common.{◌≡◌, ℕ, ◌+◌, ◌-◌, ◌<◌, ◌≤◌, List, ◌++◌, length, get_or, take, drop, replicate, ap, ◌∙◌, arith, length-append, length-drop, length-take}
use borrow.Rule.Slice.PartMut.{put_mid}
use Rattle.std.proofs.lemmas.List.{length-take-le, get_or_append_left, get_or-append_right, get_or-take, get_or-drop, get_or-replicate, drop-drop}

pub put_before : {X : Type 0} (a k : ℕ) (xs ys : List X) (i : ℕ) (d : X) → i < a → a ≤ length xs → get_or (put_mid a k xs ys) i d ≡ get_or xs i d
put_before a k xs ys i d lt le =
    let l = length-take-le a xs le in
    get_or_append_left (take a xs) (ys ++ drop k (drop a xs)) d i (omega arith) ∙ get_or-take a xs i d lt

pub put_in : {X : Type 0} (a k : ℕ) (xs ys : List X) (i : ℕ) (d : X) → a ≤ i → i - a < length ys → a ≤ length xs → get_or (put_mid a k xs ys) i d ≡ get_or ys (i - a) d
put_in a k xs ys i d ge lt le =
    get_or-append_right (take a xs) (ys ++ drop k (drop a xs)) a i d (length-take-le a xs le) ge ∙ get_or_append_left ys (drop k (drop a xs)) d (i - a) lt

pub put_past : {X : Type 0} (a k : ℕ) (xs ys : List X) (i : ℕ) (d : X) → a + k ≤ i → length ys ≡ k → a ≤ length xs → get_or (put_mid a k xs ys) i d ≡ get_or xs i d
put_past a k xs ys i d ge l le =
    let e : a + k + (i - a - k) ≡ i = omega arith in
    get_or-append_right (take a xs) (ys ++ drop k (drop a xs)) a i d (length-take-le a xs le) (omega arith)
    ∙ get_or-append_right ys (drop k (drop a xs)) k (i - a) d l (omega arith)
    ∙ ap (λ z. get_or z (i - a - k) d) (drop-drop k a xs)
    ∙ get_or-drop (a + k) xs (i - a - k) d
    ∙ ap (λ n. get_or xs n d) e

pub put_length : {X : Type 0} (a k : ℕ) (xs ys : List X) → a + k ≤ length xs → length ys ≡ k → length (put_mid a k xs ys) ≡ length xs
put_length a k xs ys le l = simp (length-append, length-take, length-drop) (omega arith)

-- a part that was filled
pub filled : (n v : ℕ) (part : List ℕ) → part ≡ replicate n v → (i : ℕ) → i < n → get_or part i 0 ≡ v
filled n v part e i lt = ap (λ z. get_or z i 0) e ∙ get_or-replicate n i v 0 lt
