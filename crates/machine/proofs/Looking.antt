-- Lists by what their items mean: the item that stands so far below the top, and another one or none in place of the top.
use Rattle.std.proofs.Common.{◌≡◌, ℕ, zero, suc, ◌+◌, List, [], ◌∷◌, map, drop, Option, MatchOption, slice_get, slice_set, sym, refl, subst, arith}
use Rattle.machine.specs.Abstraction.{frame_of, tail, topped}
use Rattle.machine.specs.declared.state.Frame as CodeFrame

abbrev Looked : {A B : Type 0} (f : A → B) (xs : List A) (i : ℕ) → Option A → Type 0
Looked f xs i r = MatchOption r (drop i (map f xs) ≡ []) (λ v. drop i (map f xs) ≡ f v ∷ drop (i + 1) (map f xs))

there : {A B : Type 0} (f : A → B) (xs : List A) (i : ℕ) → Looked f xs i (slice_get xs i)
there f [] zero = refl
there f [] (suc i) = refl
there f (x ∷ xs) zero = refl
there f (x ∷ xs) (suc i) =
    let k : suc (i + 1) ≡ suc i + 1 = omega arith in
    subst (λ n. MatchOption (slice_get xs i) (drop i (map f xs) ≡ []) (λ v. drop i (map f xs) ≡ f v ∷ drop n (f x ∷ map f xs))) k (there f xs i)

pub looked : {A B : Type 0} (f : A → B) (xs : List A) (i : ℕ) (r : Option A) → r ≡ slice_get xs i → Looked f xs i r
looked f xs i r e = subst (λ o. Looked f xs i o) (sym e) (there f xs i)

abbrev Topped : {A B : Type 0} (f : A → B) (xs : List A) → Option A → Type 0
Topped f xs r = MatchOption r (map f xs ≡ []) (λ v. map f xs ≡ f v ∷ tail (map f xs))

on_top : {A B : Type 0} (f : A → B) (xs : List A) → Topped f xs (slice_get xs 0)
on_top f [] = refl
on_top f (x ∷ xs) = refl

pub top_is : {A B : Type 0} (f : A → B) (xs : List A) (r : Option A) → r ≡ slice_get xs 0 → Topped f xs r
top_is f xs r e = subst (λ o. Topped f xs o) (sym e) (on_top f xs)

pub topped_is : (xs : List CodeFrame.Frame) (v : CodeFrame.Frame) → map frame_of (slice_set xs 0 v) ≡ topped (map frame_of xs) (frame_of v)
topped_is [] v = refl
topped_is (x ∷ xs) v = refl

pub tail_is : {A B : Type 0} (f : A → B) (xs : List A) → map f (drop 1 xs) ≡ tail (map f xs)
tail_is f [] = refl
tail_is f (x ∷ xs) = refl
