-- What stored words decode to, piece by piece and point by point: fuel is mentioned here and nowhere else.
use Rattle.std.proofs.Common.{◌≡◌, ℕ, zero, suc, ◌+◌, ◌*◌, ◌%◌, ◌<◌, ◌≤◌, min, true, leb, List, [], ◌∷◌, ◌++◌, map, length, get_or, take, drop, sym, refl, ap, ◌∙◌, inl, inr, suc-mul, zero-mul, mul-suc, arith, length-append, length-drop, take_all}
use lib.Seq.{take-nil, drop-nil, take-append-le, drop-append-le}
use Rattle.std.proofs.lemmas.List.{drop_all}
use Rattle.std.proofs.lemmas.Bool.{cases_lt, leb-true, le-leb, and_parts, and_from, false≢true}
use Rattle.path.specs.Path.{Ring, points, finished}
use Rattle.path.specs.Stored.{points_in, pieces_by, pieces, rings_in, paths_in, complete_by, complete}

-- more rounds than words make no difference
rounds_enough : (n m size : ℕ) (ws : List ℕ) → length ws ≤ n → length ws ≤ m → pieces_by n size ws ≡ pieces_by m size ws
unfolding pieces_by
rounds_enough zero zero size ws hn hm = refl
rounds_enough zero (suc m) size [] hn hm = refl
rounds_enough zero (suc m) size (c ∷ ws) hn hm = let no : ⊥ = omega arith in absurd no
rounds_enough (suc n) zero size [] hn hm = refl
rounds_enough (suc n) zero size (c ∷ ws) hn hm = let no : ⊥ = omega arith in absurd no
rounds_enough (suc n) (suc m) size [] hn hm = refl
rounds_enough (suc n) (suc m) size (c ∷ ws) hn hm =
    let l = length-drop (size * c) ws in
    ap (λ ps. take (size * c) ws ∷ ps) (rounds_enough n m size (drop (size * c) ws) (omega arith) (omega arith))

pub pieces_none : (size : ℕ) → pieces size [] ≡ []
unfolding pieces pieces_by
pieces_none size = refl

pub pieces_more : (size c : ℕ) (ws : List ℕ) → pieces size (c ∷ ws) ≡ take (size * c) ws ∷ pieces size (drop (size * c) ws)
unfolding pieces pieces_by
pieces_more size c ws =
    let l = length-drop (size * c) ws in
    ap (λ ps. take (size * c) ws ∷ ps) (rounds_enough (length ws) (length (drop (size * c) ws)) size (drop (size * c) ws) (omega arith) (omega arith))

pub rings_none : rings_in [] ≡ []
unfolding rings_in
rings_none = ap (map points_in) (pieces_none 2)

pub rings_more : (c : ℕ) (ws : List ℕ) → rings_in (c ∷ ws) ≡ points_in (take (2 * c) ws) ∷ rings_in (drop (2 * c) ws)
unfolding rings_in
rings_more c ws = ap (map points_in) (pieces_more 2 c ws)

pub paths_none : paths_in [] ≡ []
unfolding paths_in
paths_none = ap (map rings_in) (pieces_none 1)

pub paths_more : (c : ℕ) (ws : List ℕ) → paths_in (c ∷ ws) ≡ rings_in (take (1 * c) ws) ∷ paths_in (drop (1 * c) ws)
unfolding paths_in
paths_more c ws = ap (map rings_in) (pieces_more 1 c ws)

-- the same for a piece and a rest that an iterator has found
pub rings_split : (ws piece rest : List ℕ) → pieces 2 ws ≡ piece ∷ pieces 2 rest → rings_in ws ≡ points_in piece ∷ rings_in rest
unfolding rings_in
rings_split ws piece rest e = ap (map points_in) e

pub rings_over : (ws : List ℕ) → pieces 2 ws ≡ [] → rings_in ws ≡ []
unfolding rings_in
rings_over ws e = ap (map points_in) e

pub paths_split : (ws piece rest : List ℕ) → pieces 1 ws ≡ piece ∷ pieces 1 rest → paths_in ws ≡ rings_in piece ∷ paths_in rest
unfolding paths_in
paths_split ws piece rest e = ap (map rings_in) e

pub paths_over : (ws : List ℕ) → pieces 1 ws ≡ [] → paths_in ws ≡ []
unfolding paths_in
paths_over ws e = ap (map rings_in) e

-- a count that is cut to what is there
take-cut : {X : Type 0} (n m : ℕ) (ws : List X) → min n (length ws) ≡ min m (length ws) → take n ws ≡ take m ws
take-cut n m [] e = take-nil n ∙ sym (take-nil m)
take-cut zero zero (w ∷ ws) e = refl
take-cut zero (suc m) (w ∷ ws) e = let no : ⊥ = omega arith in absurd no
take-cut (suc n) zero (w ∷ ws) e = let no : ⊥ = omega arith in absurd no
take-cut (suc n) (suc m) (w ∷ ws) e = ap (λ l. w ∷ l) (take-cut n m ws (omega arith))

drop-cut : {X : Type 0} (n m : ℕ) (ws : List X) → min n (length ws) ≡ min m (length ws) → drop n ws ≡ drop m ws
drop-cut n m [] e = drop-nil n ∙ sym (drop-nil m)
drop-cut zero zero (w ∷ ws) e = refl
drop-cut zero (suc m) (w ∷ ws) e = let no : ⊥ = omega arith in absurd no
drop-cut (suc n) zero (w ∷ ws) e = let no : ⊥ = omega arith in absurd no
drop-cut (suc n) (suc m) (w ∷ ws) e = drop-cut n m ws (omega arith)

at_least : (k m n : ℕ) → n ≤ m → min (suc k * m) n ≡ n
at_least k m n le = omega (arith, suc-mul k m)

pub cut_twice : (size w n : ℕ) → min (size * min w n) n ≡ min (size * w) n
cut_twice zero w n = omega (arith, zero-mul (min w n), zero-mul w)
cut_twice (suc k) w n =
    elim (cases_lt n w) [
      | inl lt ↦
          let e : min w n ≡ n = omega arith in
          let a : min (suc k * min w n) n ≡ n = ap (λ m. min (suc k * m) n) e ∙ at_least k n n (omega arith) in
          a ∙ sym (at_least k w n (omega arith))
      | inr le ↦ let e : min w n ≡ w = omega arith in ap (λ m. min (suc k * m) n) e
    ]

pub pieces_cut : (size count end : ℕ) (ws : List ℕ) → min (size * count) (length ws) ≡ end → pieces size (count ∷ ws) ≡ take end ws ∷ pieces size (drop end ws)
pieces_cut size count end ws e =
    let same : min (size * count) (length ws) ≡ min end (length ws) = omega arith in
    pieces_more size count ws
    ∙ ap (λ p. p ∷ pieces size (drop (size * count) ws)) (take-cut (size * count) end ws same)
    ∙ ap (λ r. take end ws ∷ pieces size r) (drop-cut (size * count) end ws same)

complete_more : (n m : ℕ) (ws : List ℕ) → n ≤ m → complete_by n ws ≡ true → complete_by m ws ≡ true
unfolding complete_by
complete_more n m [] le h = refl
complete_more zero m (c ∷ ws) le h = absurd (false≢true h)
complete_more (suc n) zero (c ∷ ws) le h = let no : ⊥ = omega arith in absurd no
complete_more (suc n) (suc m) (c ∷ ws) le h =
    let both = and_parts (leb (2 * c) (length ws)) (complete_by n (drop (2 * c) ws)) h in
    and_from (leb (2 * c) (length ws)) (complete_by m (drop (2 * c) ws)) both.0 (complete_more n m (drop (2 * c) ws) (omega arith) both.1)

complete_then : (n : ℕ) (ws more : List ℕ) → complete_by n ws ≡ true → rings_in (ws ++ more) ≡ rings_in ws ++ rings_in more
unfolding complete_by
complete_then n [] more h = sym (ap (λ rs. rs ++ rings_in more) rings_none)
complete_then zero (c ∷ ws) more h = absurd (false≢true h)
complete_then (suc n) (c ∷ ws) more h =
    let both = and_parts (leb (2 * c) (length ws)) (complete_by n (drop (2 * c) ws)) h in
    let fits = leb-true (2 * c) (length ws) both.0 in
    rings_more c (ws ++ more)
    ∙ ap (λ p. points_in p ∷ rings_in (drop (2 * c) (ws ++ more))) (take-append-le (2 * c) ws more fits)
    ∙ ap (λ r. points_in (take (2 * c) ws) ∷ rings_in r) (drop-append-le (2 * c) ws more fits)
    ∙ ap (λ rs. points_in (take (2 * c) ws) ∷ rs) (complete_then n (drop (2 * c) ws) more both.1)
    ∙ sym (ap (λ rs. rs ++ rings_in more) (rings_more c ws))

-- what follows complete subpaths is read by itself
pub rings_after : (ws more : List ℕ) → complete ws ≡ true → rings_in (ws ++ more) ≡ rings_in ws ++ rings_in more
unfolding complete
rings_after ws more h = complete_then (length ws) ws more h

-- one more subpath with all its points
complete_push : (n c : ℕ) (ws body : List ℕ) → length body ≡ 2 * c → complete_by n ws ≡ true → complete_by (suc n) (ws ++ (c ∷ body)) ≡ true
unfolding complete_by
complete_push n c [] body l h =
    let none : drop (2 * c) body ≡ [] = drop_all (2 * c) body (omega arith) in
    and_from (leb (2 * c) (length body)) (complete_by n (drop (2 * c) body)) (le-leb (2 * c) (length body) (omega arith)) (ap (complete_by n) none)
complete_push zero c (d ∷ ws) body l h = absurd (false≢true h)
complete_push (suc n) c (d ∷ ws) body l h =
    let both = and_parts (leb (2 * d) (length ws)) (complete_by n (drop (2 * d) ws)) h in
    let fits = leb-true (2 * d) (length ws) both.0 in
    let len = length-append ws (c ∷ body) in
    and_from (leb (2 * d) (length (ws ++ (c ∷ body)))) (complete_by (suc n) (drop (2 * d) (ws ++ (c ∷ body)))) (le-leb (2 * d) (length (ws ++ (c ∷ body))) (omega arith))
    (ap (complete_by (suc n)) (drop-append-le (2 * d) ws (c ∷ body) fits) ∙ complete_push n c (drop (2 * d) ws) body l both.1)

pub complete_one_more : (c : ℕ) (ws body : List ℕ) → length body ≡ 2 * c → complete ws ≡ true → complete (ws ++ (c ∷ body)) ≡ true
unfolding complete
complete_one_more c ws body l h =
    let len = length-append ws (c ∷ body) in
    complete_more (suc (length ws)) (length (ws ++ (c ∷ body))) (ws ++ (c ∷ body)) (omega arith) (complete_push (length ws) c ws body l h)

pub complete_none : complete [] ≡ true
unfolding complete complete_by
complete_none = refl

pub points_none : points_in [] ≡ []
unfolding points_in
points_none = refl

pub points_short : (ws : List ℕ) → length ws < 2 → points_in ws ≡ []
unfolding points_in
points_short [] h = refl
points_short (x ∷ []) h = refl
points_short (x ∷ (y ∷ ws)) h = let no : ⊥ = omega arith in absurd no

pub points_more : (ws : List ℕ) → 2 ≤ length ws → points_in ws ≡ record { x = get_or ws 0 0 % 16777216; y = get_or ws 1 0 % 16777216 } ∷ points_in (drop 2 ws)
unfolding points_in
points_more [] h = let no : ⊥ = omega arith in absurd no
points_more (x ∷ []) h = let no : ⊥ = omega arith in absurd no
points_more (x ∷ (y ∷ ws)) h = refl

-- one more point after whole ones
pub points_push : (n : ℕ) (ws : List ℕ) (x y : ℕ) → length ws ≡ 2 * n → points_in (ws ++ (x ∷ (y ∷ []))) ≡ points_in ws ++ (record { x = x % 16777216; y = y % 16777216 } ∷ [])
unfolding points_in
points_push n [] x y l = refl
points_push zero (a ∷ ws) x y l = let no : ⊥ = omega arith in absurd no
points_push (suc n) (a ∷ []) x y l = let no : ⊥ = omega (arith, mul-suc 2 n) in absurd no
points_push (suc n) (a ∷ (b ∷ ws)) x y l = ap (λ ps. record { x = a % 16777216; y = b % 16777216 } ∷ ps) (points_push n ws x y (omega (arith, mul-suc 2 n)))

pub length-points : (n : ℕ) (ws : List ℕ) → length ws ≡ 2 * n → length (points_in ws) ≡ n
unfolding points_in
length-points zero [] l = refl
length-points (suc n) [] l = let no : ⊥ = omega (arith, mul-suc 2 n) in absurd no
length-points zero (a ∷ ws) l = let no : ⊥ = omega arith in absurd no
length-points (suc n) (a ∷ []) l = let no : ⊥ = omega (arith, mul-suc 2 n) in absurd no
length-points (suc n) (a ∷ (b ∷ ws)) l = ap suc (length-points n ws (omega (arith, mul-suc 2 n)))

pub total_push : (rs : List Ring) (r : Ring) → points (rs ++ (r ∷ [])) ≡ points rs + length r
unfolding points
total_push [] r = omega arith
total_push (q ∷ rs) r = let t = total_push rs r in omega arith

pub total_none : points [] ≡ 0
unfolding points
total_none = refl

pub finished_none : (rs : List Ring) → finished rs [] ≡ rs
unfolding finished
finished_none rs = refl

pub finished_some : (rs : List Ring) (r : Ring) → 0 < length r → finished rs r ≡ rs ++ (r ∷ [])
unfolding finished
finished_some rs [] h = let no : ⊥ = omega arith in absurd no
finished_some rs (p ∷ ps) h = refl

-- a subpath with just its points after complete ones
pub rings_push : (ws body : List ℕ) (c : ℕ) → complete ws ≡ true → length body ≡ 2 * c → rings_in (ws ++ (c ∷ body)) ≡ rings_in ws ++ (points_in body ∷ [])
rings_push ws body c h l =
    rings_after ws (c ∷ body) h
    ∙ ap (λ rs. rings_in ws ++ rs) (rings_more c body)
    ∙ ap (λ p. rings_in ws ++ (points_in p ∷ rings_in (drop (2 * c) body))) (take_all (2 * c) body (omega arith))
    ∙ ap (λ r. rings_in ws ++ (points_in body ∷ r)) (ap rings_in (drop_all (2 * c) body (omega arith)) ∙ rings_none)
