-- Rows of dots as bytes: what stands where, one row more, and a whole band with one thing more painted.
use Rattle.std.proofs.Common.{◌≡◌, ℕ, zero, suc, ◌+◌, ◌-◌, ◌*◌, ◌/◌, ◌%◌, ◌<◌, ◌≤◌, cond, List, [], ◌∷◌, ◌++◌, length, get_or, take, drop, sym, refl, ap, ◌∙◌, inl, inr, add-zero, add-suc, mul-le-mul_right, suc-mul, suc-add, zero-mul, arith, length-append, length-drop, length-take}
use borrow.Rule.Slice.PartMut.{put_mid}
use Rattle.std.proofs.lemmas.List.{get_or_append_left, get_or-append_right, get_or_at, get_or-take, get_or-drop, ext_get_or}
use Rattle.std.proofs.lemmas.Nat.{div_below, mod_below, div-add-mod'}
use Rattle.std.proofs.lemmas.Bool.{cases_lt}
use Rattle.bits.proofs.PartLaws.{put_before, put_in, put_past}
use Rattle.path.specs.Path.{Paint}
use Rattle.raster.specs.Coverage.{covers, dot_on, dot, row, rows}

-- what is painted last is on top
pub dot_more : (ps : List Paint) (t : Paint) (x y g : ℕ) → dot_on (ps ++ (t ∷ [])) x y g ≡ cond (covers t x y) t.grey (dot_on ps x y g)
unfolding dot_on
dot_more [] t x y g = refl
dot_more (p ∷ ps) t x y g = dot_more ps t x y (cond (covers p x y) p.grey g)

length-row : (ps : List Paint) (w y : ℕ) → length (row ps w y) ≡ w
unfolding row
length-row ps zero y = refl
length-row ps (suc w) y = let l = length-append (row ps w y) (dot ps w y ∷ []) in let r = length-row ps w y in omega arith

get_or-row : (ps : List Paint) (w y x : ℕ) → x < w → get_or (row ps w y) x 0 ≡ dot ps x y
unfolding row
get_or-row ps zero y x lt = let no : ⊥ = omega arith in absurd no
get_or-row ps (suc w) y x lt =
    let l = length-row ps w y in
    elim (cases_lt x w) [
      | inl less ↦ get_or_append_left (row ps w y) (dot ps w y ∷ []) 0 x (omega arith) ∙ get_or-row ps w y x less
      | inr ge ↦ let e : x ≡ w = omega arith in ap (λ k. get_or (row ps w y ++ (dot ps w y ∷ [])) k 0) e ∙ get_or_at (row ps w y) (dot ps w y) [] 0 w l ∙ ap (λ k. dot ps k y) (sym e)
    ]

pub length-rows : (ps : List Paint) (w y n : ℕ) → length (rows ps w y n) ≡ n * w
unfolding rows
length-rows ps w y zero = sym (zero-mul w)
length-rows ps w y (suc n) =
    let l = length-append (row ps w y) (rows ps w (suc y) n) in
    let a = length-row ps w y in
    let b = length-rows ps w (suc y) n in
    omega (arith, suc-mul n w)

get_or-rows : (ps : List Paint) (w y n r x : ℕ) → r < n → x < w → get_or (rows ps w y n) (r * w + x) 0 ≡ dot ps x (y + r)
unfolding rows
get_or-rows ps w y zero r x less lt = let no : ⊥ = omega arith in absurd no
get_or-rows ps w y (suc n) zero x less lt =
    let l = length-row ps w y in
    let e : zero * w + x ≡ x = omega (arith, zero-mul w) in
    ap (λ k. get_or (row ps w y ++ rows ps w (suc y) n) k 0) e ∙ get_or_append_left (row ps w y) (rows ps w (suc y) n) 0 x (omega arith) ∙ get_or-row ps w y x lt ∙ ap (dot ps x) (sym (add-zero y))
get_or-rows ps w y (suc n) (suc r) x less lt =
    let m = suc-mul r w in
    let e : suc r * w + x - w ≡ r * w + x = omega arith in
    get_or-append_right (row ps w y) (rows ps w (suc y) n) w (suc r * w + x) 0 (length-row ps w y) (omega arith)
    ∙ ap (λ k. get_or (rows ps w (suc y) n) k 0) e
    ∙ get_or-rows ps w (suc y) n r x (omega arith) lt
    ∙ ap (dot ps x) (suc-add y r ∙ sym (add-suc y r))

-- a row ends where the next begins
pub row_ends : (r n w : ℕ) → r < n → r * w + w ≤ n * w
row_ends r n w lt = omega (arith, suc-mul r w, mul-le-mul_right {m = suc r} {n = n} w (omega arith))

pub next_row : (r w : ℕ) → (r + 1) * w ≡ r * w + w
next_row r w = let e : r + 1 ≡ suc r = omega arith in ap (λ k. k * w) e ∙ suc-mul r w

-- one row more of a band; f says what is to stand in row q and column x
abbrev pub Banded : (ℕ → ℕ → ℕ → ℕ) → List ℕ → List ℕ → ℕ → ℕ → ℕ → Type 0
Banded f was bytes w start r =
    ((q x : ℕ) → start ≤ q → q < r → x < w → get_or bytes (q * w + x) 0 ≡ f q x (get_or was (q * w + x) 0))
    × ((i : ℕ) → i < start * w → get_or bytes i 0 ≡ get_or was i 0)
    × ((i : ℕ) → r * w ≤ i → get_or bytes i 0 ≡ get_or was i 0)

pub banded_more : (f : ℕ → ℕ → ℕ → ℕ) (was bytes part : List ℕ) (w start r : ℕ) → start ≤ r → r * w + w ≤ length bytes → Banded f was bytes w start r →
    length part ≡ length (take (r * w + w - r * w) (drop (r * w) bytes)) →
    ((x : ℕ) → x < length (take (r * w + w - r * w) (drop (r * w) bytes)) → get_or part x 0 ≡ f r x (get_or (take (r * w + w - r * w) (drop (r * w) bytes)) x 0)) →
    Banded f was (put_mid (r * w) (r * w + w - r * w) bytes part) w start (r + 1)
banded_more f was bytes part w start r above fits b len painted =
    let k : r * w + w - r * w ≡ w = omega arith in
    let mid : length (take (r * w + w - r * w) (drop (r * w) bytes)) ≡ w = simp (length-take, length-drop) (omega arith) in
    let all : length part ≡ r * w + w - r * w = len ∙ mid ∙ sym k in
    let order = mul-le-mul_right {m = start} {n = r} w above in
    let next = next_row r w in (
      λ q x le lt h.
          elim (cases_lt q r) [
            | inl less ↦
                let e = row_ends q r w less in
                put_before (r * w) (r * w + w - r * w) bytes part (q * w + x) 0 (omega arith) (omega arith) ∙ b.0 q x le less h
            | inr ge ↦
                let e : q ≡ r = omega arith in
                let i : r * w + x - r * w ≡ x = omega arith in
                ap (λ n. get_or (put_mid (r * w) (r * w + w - r * w) bytes part) (n * w + x) 0) e
                ∙ put_in (r * w) (r * w + w - r * w) bytes part (r * w + x) 0 (omega arith) (omega arith) (omega arith)
                ∙ ap (λ n. get_or part n 0) i
                ∙ painted x (omega arith)
                ∙ ap (f r x) (get_or-take (r * w + w - r * w) (drop (r * w) bytes) x 0 (omega arith) ∙ get_or-drop (r * w) bytes x 0 ∙ b.2 (r * w + x) (omega arith))
                ∙ ap (λ n. f n x (get_or was (n * w + x) 0)) (sym e)
          ],
      λ i lt. put_before (r * w) (r * w + w - r * w) bytes part i 0 (omega arith) (omega arith) ∙ b.1 i lt,
      λ i le. put_past (r * w) (r * w + w - r * w) bytes part i 0 (omega arith) all (omega arith) ∙ b.2 i (omega arith),
    )

-- the rows of some things and of one more, dot by dot
pub painted_more : (was bytes : List ℕ) (w y n : ℕ) (t : Paint) → length bytes ≡ length was → n * w ≤ length was →
    ((r x : ℕ) → r < n → x < w → get_or bytes (r * w + x) 0 ≡ cond (covers t x (y + r)) t.grey (get_or was (r * w + x) 0)) → ((i : ℕ) → n * w ≤ i → get_or bytes i 0 ≡ get_or was i 0) →
    (ps : List Paint) → take (n * w) was ≡ rows ps w y n → bytes ≡ rows (ps ++ (t ∷ [])) w y n ++ drop (n * w) was
painted_more was bytes w y n t same fits one behind ps e =
    let new = rows (ps ++ (t ∷ [])) w y n in
    let l = length-rows (ps ++ (t ∷ [])) w y n in
    let d = length-drop (n * w) was in
    let a = length-append new (drop (n * w) was) in
    ext_get_or 0 bytes (new ++ drop (n * w) was) (omega arith)
    (λ i lt.
    elim (cases_lt i (n * w)) [
      | inl within ↦
          let some : 0 < w = elim (cases_lt 0 w) [ inl h ↦ h | inr h ↦ let z : w ≡ 0 = omega arith in let p : n * w ≡ n * 0 = ap (λ k. n * k) z in omega arith ] in
          let lr : i / w < n = div_below i w n some within in
          let lx : i % w < w = mod_below i w some in
          let place : i / w * w + i % w ≡ i = div-add-mod' i w in
          sym (ap (λ k. get_or bytes k 0) place)
          ∙ one (i / w) (i % w) lr lx
          ∙ ap (λ v. cond (covers t (i % w) (y + i / w)) t.grey v) (ap (λ k. get_or was k 0) place ∙ sym (get_or-take (n * w) was i 0 within) ∙ ap (λ z. get_or z i 0) e ∙ sym (ap (λ k. get_or (rows ps w y n) k 0) place) ∙ get_or-rows ps w y n (i / w) (i % w) lr lx)
          ∙ sym (dot_more ps t (i % w) (y + i / w) 255)
          ∙ sym (get_or-rows (ps ++ (t ∷ [])) w y n (i / w) (i % w) lr lx)
          ∙ ap (λ k. get_or new k 0) place
          ∙ sym (get_or_append_left new (drop (n * w) was) 0 i (omega arith))
      | inr past ↦
          let k : n * w + (i - n * w) ≡ i = omega arith in
          behind i past
          ∙ sym (ap (λ m. get_or was m 0) k)
          ∙ sym (get_or-drop (n * w) was (i - n * w) 0)
          ∙ sym (get_or-append_right new (drop (n * w) was) (n * w) i 0 l past)
    ])
