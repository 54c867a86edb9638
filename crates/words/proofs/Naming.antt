-- The table of names: looking a word up, and entering it.
use Rattle.std.proofs.Common.{rules, ◌≡◌, ℕ, ◌<◌, ◌≤◌, ◌+◌, cond, ltb, List, [], ◌∷◌, ◌++◌, length, take, set, Some, None, Option, sym, refl, ap, subst, ◌∙◌, inl, inr, arith, length-take, Bor, bytes_eq}
use lib.ListN.{length-map}
use Rattle.std.specs.List.{position_or_len}
use Rattle.std.specs.Option.{MatchOption}
use Rattle.std.proofs.lemmas.List.{map-append, take_more_set}
use Rattle.std.proofs.lemmas.List.Recursion.{is_position_or_len}
use Rattle.std.proofs.lemmas.Bool.{cases_Bool}
use Rattle.std.proofs.lemmas.Slice.Eq.{slice_eq-Decides, compares_Decides}
use Rattle.std.proofs.lemmas.Bool.Decides.{same_from_decides, Decides-eqb, nat_tests}
use Rattle.lexer.specs.Reading.{same_word, place_of, with_word}
use Rattle.words.specs.Naming.{words_in}

-- both decide whether the two words are the same
pub same_bytes : (v w : List ℕ) → bytes_eq v w ≡ same_word v w
unfolding same_word
same_bytes v w = same_from_decides (bytes_eq v w) (same_word v w) (slice_eq-Decides Decides-eqb v w (bytes_eq v w) refl) (compares_Decides same_word (search rules) v w)

-- the first of some words that is the same
pub looked_up : (ns : List (Bor (List ℕ))) (w : List ℕ) → place_of (words_in ns) w ≡ position_or_len (λ r. bytes_eq r.now w) ns
unfolding place_of
looked_up ns w = is_position_or_len (λ xs. place_of (words_in xs) w) (λ r. bytes_eq r.now w) refl (λ x xs. rw (same_bytes x.now w) (ap (cond (same_word x.now w) 0) (omega arith))) ns

told : (p n : ℕ) → MatchOption (cond (ltb p n) (Some p) None) (n ≤ p) (λ k. (k ≡ p) × (k < n))
told p n =
    elim (cases_Bool (ltb p n)) [
      | inl t ↦ let h : p < n = grind (arith, nat_tests) in simp t (refl, h)
      | inr t ↦ let h : n ≤ p = grind (arith, nat_tests) in simp t h
    ]

-- as many words as references
pub many : (ns : List (Bor (List ℕ))) → length (words_in ns) ≡ length ns
many ns = simp length-map refl

-- where a word was found, or that it was not
abbrev pub Looked : List (List ℕ) → List ℕ → Option ℕ → Type 0
Looked ws w r = MatchOption r (length ws ≤ place_of ws w) (λ k. (k ≡ place_of ws w) × (k < length ws))

pub found_place : (ns : List (Bor (List ℕ))) (w : List ℕ) (r : Option ℕ) → r ≡ cond (ltb (position_or_len (λ r. bytes_eq r.now w) ns) (length ns)) (Some (position_or_len (λ r. bytes_eq r.now w) ns)) None → Looked (words_in ns) w r
found_place ns w r e =
    let p = position_or_len (λ r. bytes_eq r.now w) ns in
    let found : MatchOption r (length ns ≤ p) (λ k. (k ≡ p) × (k < length ns)) = subst (λ z. MatchOption z (length ns ≤ p) (λ k. (k ≡ p) × (k < length ns))) (sym e) (told p (length ns)) in
    subst (λ z. MatchOption r (length (words_in ns) ≤ z) (λ k. (k ≡ z) × (k < length (words_in ns)))) (sym (looked_up ns w)) (subst (λ n. MatchOption r (n ≤ p) (λ k. (k ≡ p) × (k < n))) (sym (many ns)) found)

pub place_within : (ws : List (List ℕ)) (w : List ℕ) → place_of ws w ≤ length ws
unfolding place_of
place_within [] w = omega arith
place_within (v ∷ vs) w =
    let k = place_within vs w in
    elim (cases_Bool (same_word v w)) [
      | inl t ↦ simp t (omega arith)
      | inr t ↦ simp t (omega arith)
    ]

-- a word that is there leaves the words as they are; another one comes last
pub with_known : (ws : List (List ℕ)) (w : List ℕ) → place_of ws w < length ws → with_word ws w ≡ ws
unfolding place_of with_word
with_known [] w h = absurd (omega arith)
with_known (v ∷ vs) w h =
    elim (cases_Bool (same_word v w)) [
      | inl t ↦ simp t
      | inr t ↦ let k : place_of vs w < length vs = omega (arith, simp t at h) in simp t (ap (λ z. v ∷ z) (with_known vs w k))
    ]

pub with_new : (ws : List (List ℕ)) (w : List ℕ) → length ws ≤ place_of ws w → with_word ws w ≡ ws ++ (w ∷ [])
unfolding place_of with_word
with_new [] w h = refl
with_new (v ∷ vs) w h =
    elim (cases_Bool (same_word v w)) [
      | inl t ↦ absurd (omega (arith, simp t at h))
      | inr t ↦ let k : length vs ≤ place_of vs w = omega (arith, simp t at h) in simp t (ap (λ z. v ∷ z) (with_new vs w k))
    ]

-- as many words as places that are used
pub known_many : (ns : List (Bor (List ℕ))) (n : ℕ) → n ≤ length ns → length (words_in (take n ns)) ≡ n
known_many ns n h = many (take n ns) ∙ length-take n ns ∙ (omega arith)

pub entered_new : (ns : List (Bor (List ℕ))) (n : ℕ) (r : Bor (List ℕ)) → n < length ns → n ≤ place_of (words_in (take n ns)) r.now → words_in (take (n + 1) (set ns n r)) ≡ with_word (words_in (take n ns)) r.now
entered_new ns n r l h =
    let m = known_many ns n (omega arith) in
    ap words_in (take_more_set ns n r l) ∙ map-append (λ z. z.now) (take n ns) (r ∷ []) ∙ sym (with_new (words_in (take n ns)) r.now (omega arith))
