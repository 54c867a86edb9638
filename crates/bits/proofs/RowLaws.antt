-- Rows of bits: parities, one bit changed, and the steps of a sweep.
use Rattle.std.proofs.Common.{◌≡◌, ℕ, zero, suc, ◌+◌, ◌-◌, ◌*◌, ◌/◌, ◌%◌, ◌^◌, ◌<◌, ◌≤◌, Bool, true, false, not, ◌&&◌, eqb, ltb, ◌≢◌, List, length, get_or, set, take, drop, sym, refl, ap, ◌∙◌, inl, inr, add-zero, add-suc, mod-lt, mod-eq_of_lt, arith, length-drop, length-take, get_or-set_other, get_or-set_same}
use mathlib.Core.Bool.{xor}
use native.Mathlib.Nat.{div-add-mod}
use lib.Bits.{bit_and, bit_xor}
use Rattle.std.proofs.lemmas.Bool.{cases_lt, cases_eq, eq-eqb, ne_eqb, lt-ltb, le-ltb}
use Rattle.std.proofs.lemmas.Nat.{div_below}
use borrow.Rule.Slice.PartMut.{put_mid}
use Rattle.std.proofs.lemmas.List.{get_or-take, get_or-drop}
use Rattle.bits.proofs.PartLaws.{put_before, put_in, put_past, put_length}
use Rattle.bits.specs.Row.{bit, bit_at, odd_below, Within}
use Rattle.bits.proofs.BitLaws.{bit_xor_lem, bit_and_lem, bit_zero, bit_power, bit_one, bit_shl_above, bit_shl_below, bit_ones, false_xor, xor_false, xor_comm, xor_assoc, xor_self, xor_middle}

-- parities
pub odd_same : (f g : ℕ → Bool) (n : ℕ) → ((k : ℕ) → k < n → f k ≡ g k) → odd_below f n ≡ odd_below g n
unfolding odd_below
odd_same f g zero h = refl
odd_same f g (suc n) h = ap (λ b. xor b (odd_below f n)) (h n (omega arith)) ∙ ap (xor (g n)) (odd_same f g n (λ k lt. h k (omega arith)))

pub odd_none : (f : ℕ → Bool) (n : ℕ) → ((k : ℕ) → k < n → f k ≡ false) → odd_below f n ≡ false
unfolding odd_below
odd_none f zero h = refl
odd_none f (suc n) h = ap (λ b. xor b (odd_below f n)) (h n (omega arith)) ∙ false_xor (odd_below f n) ∙ odd_none f n (λ k lt. h k (omega arith))

pub odd_split : (f : ℕ → Bool) (m n : ℕ) → odd_below f (m + n) ≡ xor (odd_below (λ k. f (m + k)) n) (odd_below f m)
unfolding odd_below
odd_split f m zero = ap (odd_below f) (add-zero m) ∙ sym (false_xor (odd_below f m))
odd_split f m (suc n) =
    ap (odd_below f) (add-suc m n) ∙ ap (xor (f (m + n))) (odd_split f m n) ∙ sym (xor_assoc (f (m + n)) (odd_below (λ k. f (m + k)) n) (odd_below f m))

-- one place changed
pub odd_toggled : (f g : ℕ → Bool) (x n : ℕ) → ((k : ℕ) → g k ≡ xor (eqb k x) (f k)) → odd_below g n ≡ xor (ltb x n) (odd_below f n)
unfolding odd_below xor
odd_toggled f g x zero h = sym (ap (λ b. xor b false) (le-ltb x 0 (omega arith)) ∙ xor_false false)
odd_toggled f g x (suc n) h =
    ap (λ b. xor b (odd_below g n)) (h n) ∙ ap (xor (xor (eqb n x) (f n))) (odd_toggled f g x n h)
    ∙ swapped (eqb n x) (f n) (ltb x n) (odd_below f n)
    ∙ ap (λ b. xor b (xor (f n) (odd_below f n))) (next_ltb x n)
  where
    swapped : (a b c d : Bool) → xor (xor a b) (xor c d) ≡ xor (xor a c) (xor b d)
    swapped a b c d =
        xor_assoc a b (xor c d) ∙ ap (xor a) (sym (xor_assoc b c d) ∙ ap (λ t. xor t d) (xor_comm b c) ∙ xor_assoc c b d) ∙ sym (xor_assoc a c (xor b d))

    next_ltb : (x n : ℕ) → xor (eqb n x) (ltb x n) ≡ ltb x (suc n)
    next_ltb x n =
        elim (cases_eq n x) [
          | inl e ↦ ap (λ b. xor b (ltb x n)) (eq-eqb n x e) ∙ ap (xor true) (le-ltb x n (omega arith)) ∙ sym (lt-ltb x (suc n) (omega arith))
          | inr ne ↦
              ap (λ b. xor b (ltb x n)) (ne_eqb n x ne) ∙ false_xor (ltb x n)
              ∙ elim (cases_lt x n) [ inl lt ↦ lt-ltb x n lt ∙ sym (lt-ltb x (suc n) (omega arith)) | inr le ↦ le-ltb x n le ∙ sym (le-ltb x (suc n) (let d : n ≢ x = ne in omega arith)) ]
        ]

-- the place of a bit
pub same_word : (k x : ℕ) → k / 64 ≡ x / 64 → eqb (k % 64) (x % 64) ≡ eqb k x
same_word k x e =
    let a = div-add-mod k 64 in
    let b = div-add-mod x 64 in
    elim (cases_eq k x) [
      | inl s ↦ eq-eqb (k % 64) (x % 64) (ap (λ n. n % 64) s) ∙ sym (eq-eqb k x s)
      | inr ne ↦ ne_eqb (k % 64) (x % 64) (λ s. ne (omega arith)) ∙ sym (ne_eqb k x ne)
    ]

pub bit_toggled : (ws : List ℕ) (x k : ℕ) → x / 64 < length ws → bit_at (set ws (x / 64) (bit_xor (get_or ws (x / 64) 0) (2 ^ (x % 64)))) k ≡ xor (eqb k x) (bit_at ws k)
bit_toggled ws x k lt =
    let w = bit_xor (get_or ws (x / 64) 0) (2 ^ (x % 64)) in
    elim (cases_eq (k / 64) (x / 64)) [
      | inl e ↦
          ap (λ n. bit (get_or (set ws (x / 64) w) n 0) (k % 64)) e
          ∙ ap (λ v. bit v (k % 64)) (get_or-set_same ws (x / 64) w 0 lt)
          ∙ bit_xor_lem (get_or ws (x / 64) 0) (2 ^ (x % 64)) (k % 64)
          ∙ xor_comm (bit (get_or ws (x / 64) 0) (k % 64)) (bit (2 ^ (x % 64)) (k % 64))
          ∙ ap (λ b. xor b (bit (get_or ws (x / 64) 0) (k % 64))) (bit_power (x % 64) (k % 64) ∙ same_word k x e)
          ∙ ap (λ n. xor (eqb k x) (bit (get_or ws n 0) (k % 64))) (sym e)
      | inr ne ↦
          ap (λ v. bit v (k % 64)) (get_or-set_other ws (x / 64) (k / 64) w 0 ne)
          ∙ sym (ap (λ b. xor b (bit_at ws k)) (ne_eqb k x (λ s. ne (ap (λ n. n / 64) s))) ∙ false_xor (bit_at ws k))
    ]

-- a word whose bits are parities of the last j bits, and the same of twice as many
abbrev pub Spans : ℕ → ℕ → ℕ → Type 0
Spans word j r = (k : ℕ) → k < 64 → bit r k ≡ xor (odd_below (bit word) (suc k)) (odd_below (bit word) (suc k - j))

pub spans_one : (word : ℕ) → Spans word 1 word
unfolding odd_below
spans_one word k lt =
    let e : suc k - 1 ≡ k = omega arith in
    sym (ap (λ n. xor (odd_below (bit word) (suc k)) (odd_below (bit word) n)) e
    ∙ xor_assoc (bit word k) (odd_below (bit word) k) (odd_below (bit word) k) ∙ ap (xor (bit word k)) (xor_self (odd_below (bit word) k)) ∙ xor_false (bit word k))

pub spans_twice : (word j r : ℕ) → Spans word j r → Spans word (2 * j) (bit_xor r ((r * 2 ^ j) % 2 ^ 64))
spans_twice word j r h k lt =
    let P = odd_below (bit word) in
    bit_xor_lem r ((r * 2 ^ j) % 2 ^ 64) k
    ∙ elim (cases_lt k j) [
      | inl low ↦
          let a : suc k - j ≡ suc k - 2 * j = omega arith in
          ap (xor (bit r k)) (bit_shl_below r j k lt low) ∙ xor_false (bit r k) ∙ h k lt ∙ ap (λ n. xor (odd_below (bit word) (suc k)) (odd_below (bit word) n)) a
      | inr le ↦
          let a : suc (k - j) ≡ suc k - j = omega arith in
          let b : suc (k - j) - j ≡ suc k - 2 * j = omega arith in
          ap (xor (bit r k)) (bit_shl_above r j k lt le ∙ h (k - j) (omega arith))
          ∙ ap (λ t. xor t (xor (odd_below (bit word) (suc (k - j))) (odd_below (bit word) (suc (k - j) - j)))) (h k lt)
          ∙ ap (λ n. xor (xor (odd_below (bit word) (suc k)) (odd_below (bit word) (suc k - j))) (xor (odd_below (bit word) n) (odd_below (bit word) (suc (k - j) - j)))) a
          ∙ ap (λ n. xor (xor (odd_below (bit word) (suc k)) (odd_below (bit word) (suc k - j))) (xor (odd_below (bit word) (suc k - j)) (odd_below (bit word) n))) b
          ∙ xor_middle (odd_below (bit word) (suc k)) (odd_below (bit word) (suc k - j)) (odd_below (bit word) (suc k - 2 * j))
    ]

pub spans_all : (word r : ℕ) → Spans word 64 r → (k : ℕ) → k < 64 → bit r k ≡ odd_below (bit word) (suc k)
unfolding odd_below
spans_all word r h k lt =
    let e : suc k - 64 ≡ 0 = omega arith in
    h k lt ∙ ap (λ n. xor (odd_below (bit word) (suc k)) (odd_below (bit word) n)) e ∙ xor_false (odd_below (bit word) (suc k))

-- bits from m on that are not set leave the parity as it is
pub odd_stays : (f : ℕ → Bool) (m n : ℕ) → m ≤ n → ((k : ℕ) → m ≤ k → k < n → f k ≡ false) → odd_below f n ≡ odd_below f m
odd_stays f m n le h =
    let e : n ≡ m + (n - m) = omega arith in
    ap (odd_below f) e ∙ odd_split f m (n - m) ∙ ap (λ b. xor b (odd_below f m)) (odd_none (λ k. f (m + k)) (n - m) (λ k lt. h (m + k) (omega arith) (omega arith)))
    ∙ false_xor (odd_below f m)

-- dot 64 * i + k is bit k of word i
pub bit_in_word : (ws : List ℕ) (i k : ℕ) → k < 64 → bit_at ws (64 * i + k) ≡ bit (get_or ws i 0) k
bit_in_word ws i k lt =
    ap (λ n. bit (get_or ws n 0) ((64 * i + k) % 64)) (word_of i k lt) ∙ ap (bit (get_or ws i 0)) (place_of i k lt)
  where
    word_of : (i k : ℕ) → k < 64 → (64 * i + k) / 64 ≡ i
    word_of i k lt = omega arith

    place_of : (i k : ℕ) → k < 64 → (64 * i + k) % 64 ≡ k
    place_of i k lt = omega arith

-- a row of which a word is 0
pub bit_unset : (ws : List ℕ) (x : ℕ) → get_or ws (x / 64) 0 ≡ 0 → bit_at ws x ≡ false
bit_unset ws x e = ap (λ w. bit w (x % 64)) e ∙ bit_zero (x % 64)

-- the parity up to a place in a word
word_parity : (ws : List ℕ) (i n : ℕ) → n ≤ 64 → odd_below (bit_at ws) (64 * i + n) ≡ xor (odd_below (bit (get_or ws i 0)) n) (odd_below (bit_at ws) (64 * i))
word_parity ws i n le =
    odd_split (bit_at ws) (64 * i) n
    ∙ ap (λ b. xor b (odd_below (bit_at ws) (64 * i))) (odd_same (λ k. bit_at ws (64 * i + k)) (bit (get_or ws i 0)) n (λ k lt. bit_in_word ws i k (omega arith)))

-- a carry is as one more bit at the beginning
carried : (w carry n : ℕ) → carry < 2 → 0 < n → odd_below (bit (bit_xor w carry)) n ≡ xor (not (eqb carry 0)) (odd_below (bit w) n)
carried w zero n lt some =
    odd_same (bit (bit_xor w 0)) (bit w) n (λ k h. bit_xor_lem w 0 k ∙ ap (xor (bit w k)) (bit_zero k) ∙ xor_false (bit w k)) ∙ sym (false_xor (odd_below (bit w) n))
carried w (suc zero) n lt some =
    odd_toggled (bit w) (bit (bit_xor w 1)) 0 n (λ k. bit_xor_lem w 1 k ∙ xor_comm (bit w k) (bit 1 k) ∙ ap (λ b. xor b (bit w k)) (bit_one k))
    ∙ ap (λ b. xor b (odd_below (bit w) n)) (lt-ltb 0 n some)
carried w (suc (suc c)) n lt some = let no : ⊥ = omega arith in absurd no

-- a word with no bit set has the carry in all of its places
pub carried_none : (carry r k : ℕ) → carry < 2 → bit r k ≡ not (eqb carry 0) → bit r k ≡ odd_below (bit (bit_xor 0 carry)) (suc k)
carried_none carry r k lt h =
    h ∙ sym (carried 0 carry (suc k) lt (omega arith) ∙ ap (xor (not (eqb carry 0))) (odd_none (bit 0) (suc k) (λ j less. bit_zero j)) ∙ xor_false (not (eqb carry 0)))

-- one word more of a sweep: `was` is the row before it
abbrev pub Swept : List ℕ → List ℕ → ℕ → ℕ → Type 0
Swept was ws i carry =
    ((x : ℕ) → x < 64 * i → bit_at ws x ≡ odd_below (bit_at was) (suc x))
    × ((j : ℕ) → i ≤ j → get_or ws j 0 ≡ get_or was j 0)
    × (carry < 2)
    × (not (eqb carry 0) ≡ odd_below (bit_at was) (64 * i))

word_swept : (was ws : List ℕ) (i carry r n : ℕ) → get_or ws i 0 ≡ get_or was i 0 → carry < 2 → not (eqb carry 0) ≡ odd_below (bit_at was) (64 * i) → 0 < n → n ≤ 64 →
    odd_below (bit (bit_xor (get_or ws i 0) carry)) n ≡ odd_below (bit_at was) (64 * i + n)
word_swept was ws i carry r n same lt c some le =
    ap (λ w. odd_below (bit (bit_xor w carry)) n) same
    ∙ carried (get_or was i 0) carry n lt some
    ∙ ap (λ b. xor b (odd_below (bit (get_or was i 0)) n)) c
    ∙ xor_comm (odd_below (bit_at was) (64 * i)) (odd_below (bit (get_or was i 0)) n)
    ∙ sym (word_parity was i n le)

pub swept_more : (was ws : List ℕ) (i carry r : ℕ) → i < length ws → r < 2 ^ 64 →
    ((k : ℕ) → k < 64 → bit r k ≡ odd_below (bit (bit_xor (get_or ws i 0) carry)) (suc k)) → Swept was ws i carry → Swept was (set ws i r) (i + 1) (r / 2 ^ 63)
unfolding bit
swept_more was ws i carry r lt fits h s =
    let same = s.1 i (omega arith) in
    let top : r / 2 ^ 63 < 2 = div_below r (2 ^ 63) 2 (omega arith) (omega arith) in
    let last : 64 * i + 64 ≡ 64 * (i + 1) = omega arith in (
      λ x less.
          elim (cases_lt x (64 * i)) [
            | inl low ↦
                let ne : x / 64 ≢ i = omega arith in
                ap (λ w. bit w (x % 64)) (get_or-set_other ws i (x / 64) r 0 ne) ∙ s.0 x low
            | inr le ↦
                let k = x - 64 * i in
                let e : x ≡ 64 * i + k = omega arith in
                let n : 64 * i + suc k ≡ suc x = omega arith in
                ap (bit_at (set ws i r)) e ∙ bit_in_word (set ws i r) i k (omega arith) ∙ ap (λ w. bit w k) (get_or-set_same ws i r 0 lt) ∙ h k (omega arith)
                ∙ word_swept was ws i carry r (suc k) same s.2 s.3 (omega arith) (omega arith) ∙ ap (odd_below (bit_at was)) n
          ],
      λ j le. let ne : j ≢ i = omega arith in get_or-set_other ws i j r 0 ne ∙ s.1 j (omega arith),
      top,
      one_or_none (r / 2 ^ 63) top ∙ ap (λ n. eqb n 1) (sym (mod-eq_of_lt top)) ∙ h 63 (omega arith) ∙ word_swept was ws i carry r 64 same s.2 s.3 (omega arith) (omega arith)
          ∙ ap (odd_below (bit_at was)) last,
    )
  where
    one_or_none : (n : ℕ) → n < 2 → not (eqb n 0) ≡ eqb n 1
    one_or_none zero lt = refl
    one_or_none (suc zero) lt = refl
    one_or_none (suc (suc n)) lt = let no : ⊥ = omega arith in absurd no

-- the words from low up to before high are all of a row that may be set: they have its bits and its parities
abbrev pub middle : List ℕ → ℕ → ℕ → List ℕ
middle ws low high = take (high - low) (drop low ws)

pub length-middle : (ws : List ℕ) (low high : ℕ) → high ≤ length ws → length (middle ws low high) ≡ high - low
length-middle ws low high le = simp (length-take, length-drop) (omega arith)

pub in_middle : (ws : List ℕ) (low high k : ℕ) → k < high - low → get_or (middle ws low high) k 0 ≡ get_or ws (low + k) 0
in_middle ws low high k lt = get_or-take (high - low) (drop low ws) k 0 lt ∙ get_or-drop low ws k 0

bit_middle : (ws : List ℕ) (low high k : ℕ) → k < 64 * (high - low) → bit_at ws (64 * low + k) ≡ bit_at (middle ws low high) k
bit_middle ws low high k lt =
    let word : (64 * low + k) / 64 ≡ low + k / 64 = omega arith in
    let place : (64 * low + k) % 64 ≡ k % 64 = omega arith in
    ap (λ n. bit (get_or ws n 0) ((64 * low + k) % 64)) word
    ∙ ap (bit (get_or ws (low + k / 64) 0)) place
    ∙ sym (ap (λ w. bit w (k % 64)) (in_middle ws low high (k / 64) (omega arith)))

odd_middle : (ws : List ℕ) (low high n : ℕ) → Within ws low high → n ≤ 64 * (high - low) → odd_below (bit_at (middle ws low high)) n ≡ odd_below (bit_at ws) (64 * low + n)
odd_middle ws low high n w le =
    sym (odd_split (bit_at ws) (64 * low) n
    ∙ ap (λ b. xor b (odd_below (bit_at ws) (64 * low))) (odd_same (λ k. bit_at ws (64 * low + k)) (bit_at (middle ws low high)) n (λ k lt. bit_middle ws low high k (omega arith)))
    ∙ ap (xor (odd_below (bit_at (middle ws low high)) n)) (odd_none (bit_at ws) (64 * low) (λ k lt. bit_unset ws k (w.1 (k / 64) (omega arith))))
    ∙ xor_false (odd_below (bit_at (middle ws low high)) n))

-- a row whose middle is swept is swept as far as that goes
pub middle_swept : (was part : List ℕ) (low high x : ℕ) → low ≤ high → Within was low high → length part ≡ high - low →
    ((k : ℕ) → k < 64 * (high - low) → bit_at part k ≡ odd_below (bit_at (middle was low high)) (suc k)) → x < 64 * high →
    bit_at (put_mid low (high - low) was part) x ≡ odd_below (bit_at was) (suc x)
middle_swept was part low high x order w len swept lt =
    let top = w.0 in
    elim (cases_lt x (64 * low)) [
      | inl below ↦
          bit_unset (put_mid low (high - low) was part) x (put_before low (high - low) was part (x / 64) 0 (omega arith) (omega arith) ∙ w.1 (x / 64) (omega arith))
          ∙ sym (odd_none (bit_at was) (suc x) (λ k less. bit_unset was k (w.1 (k / 64) (omega arith))))
      | inr ge ↦
          let k = x - 64 * low in
          let word : x / 64 - low ≡ k / 64 = omega arith in
          let place : x % 64 ≡ k % 64 = omega arith in
          let n : 64 * low + suc k ≡ suc x = omega arith in
          ap (λ v. bit v (x % 64)) (put_in low (high - low) was part (x / 64) 0 (omega arith) (omega arith) (omega arith))
          ∙ ap (λ m. bit (get_or part m 0) (x % 64)) word
          ∙ ap (bit (get_or part (k / 64) 0)) place
          ∙ swept k (omega arith)
          ∙ odd_middle was low high (suc k) w (omega arith)
          ∙ ap (odd_below (bit_at was)) n
    ]

pub middle_parity : (was : List ℕ) (low high : ℕ) → low ≤ high → Within was low high → odd_below (bit_at (middle was low high)) (64 * length (middle was low high)) ≡ odd_below (bit_at was) (64 * high)
middle_parity was low high order w =
    let len = length-middle was low high w.0 in
    let n : 64 * low + 64 * length (middle was low high) ≡ 64 * high = omega arith in
    odd_middle was low high (64 * length (middle was low high)) w (omega arith) ∙ ap (odd_below (bit_at was)) n

-- a row of which only the middle is written has set words there alone
pub middle_within : (was part : List ℕ) (low high : ℕ) → low ≤ high → Within was low high → length part ≡ high - low → Within (put_mid low (high - low) was part) low high
middle_within was part low high order w len =
    let top = w.0 in
    let all : length (put_mid low (high - low) was part) ≡ length was = put_length low (high - low) was part (omega arith) len in (
      omega arith,
      λ i lt. put_before low (high - low) was part i 0 lt (omega arith) ∙ w.1 i lt,
      λ i ge. put_past low (high - low) was part i 0 (omega arith) len (omega arith) ∙ w.2 i ge,
    )

-- a row of which each word that may be set is cut by another row's
pub common_all : (was others part : List ℕ) (low high x : ℕ) → low ≤ high → high ≤ length others → Within was low high → length part ≡ high - low →
    ((i : ℕ) → i < high - low → get_or part i 0 ≡ bit_and (get_or (middle was low high) i 0) (get_or (middle others low high) i 0)) →
    bit_at (put_mid low (high - low) was part) x ≡ (bit_at was x && bit_at others x)
common_all was others part low high x order le w len cut =
    let i = x / 64 in
    let top = w.0 in
    elim (cases_lt i low) [
      | inl below ↦ none (put_before low (high - low) was part i 0 below (omega arith) ∙ w.1 i below) (w.1 i below)
      | inr from ↦
          elim (cases_lt i high) [
            | inl inside ↦
                let at : low + (i - low) ≡ i = omega arith in
                ap (λ v. bit v (x % 64)) (put_in low (high - low) was part i 0 from (omega arith) (omega arith) ∙ cut (i - low) (omega arith))
                ∙ bit_and_lem (get_or (middle was low high) (i - low) 0) (get_or (middle others low high) (i - low) 0) (x % 64)
                ∙ ap (λ v. bit v (x % 64) && bit (get_or (middle others low high) (i - low) 0) (x % 64)) (in_middle was low high (i - low) (omega arith) ∙ ap (λ n. get_or was n 0) at)
                ∙ ap (λ v. bit (get_or was i 0) (x % 64) && bit v (x % 64)) (in_middle others low high (i - low) (omega arith) ∙ ap (λ n. get_or others n 0) at)
            | inr past ↦ none (put_past low (high - low) was part i 0 (omega arith) len (omega arith) ∙ w.2 i past) (w.2 i past)
          ]
    ]
  where
    none : get_or (put_mid low (high - low) was part) (x / 64) 0 ≡ 0 → get_or was (x / 64) 0 ≡ 0 → bit_at (put_mid low (high - low) was part) x ≡ (bit_at was x && bit_at others x)
    none new old = bit_unset (put_mid low (high - low) was part) x new ∙ sym (ap (λ b. b && bit_at others x) (bit_unset was x old))

-- a row with nothing set
pub empty_within : (ws : List ℕ) (low high : ℕ) → high ≤ low → Within ws low high → (i : ℕ) → get_or ws i 0 ≡ 0
empty_within ws low high le w i = elim (cases_lt i low) [ inl a ↦ w.1 i a | inr b ↦ w.2 i (omega arith) ]

pub odd_empty : (ws : List ℕ) → ((i : ℕ) → get_or ws i 0 ≡ 0) → (x : ℕ) → bit_at ws x ≡ odd_below (bit_at ws) (suc x)
odd_empty ws none x = bit_unset ws x (none (x / 64)) ∙ sym (odd_none (bit_at ws) (suc x) (λ k lt. bit_unset ws k (none (k / 64))))

-- past the last word that may be set the parity stays
odd_after : (ws : List ℕ) (low high x : ℕ) → Within ws low high → 64 * high ≤ x → odd_below (bit_at ws) (suc x) ≡ odd_below (bit_at ws) (64 * high)
odd_after ws low high x w le = odd_stays (bit_at ws) (64 * high) (suc x) (omega arith) (λ k ge lt. bit_unset ws k (w.2 (k / 64) (omega arith)))

-- the end of a sweep: an even row is empty from there, an odd one is set
pub swept_even : (was ws : List ℕ) (low high : ℕ) → Within was low high → ((x : ℕ) → x < 64 * high → bit_at ws x ≡ odd_below (bit_at was) (suc x)) →
    ((i : ℕ) → high ≤ i → get_or ws i 0 ≡ 0) → false ≡ odd_below (bit_at was) (64 * high) → (x : ℕ) → bit_at ws x ≡ odd_below (bit_at was) (suc x)
swept_even was ws low high w swept rest even x =
    elim (cases_lt x (64 * high)) [ inl lt ↦ swept x lt | inr ge ↦ bit_unset ws x (rest (x / 64) (omega arith)) ∙ even ∙ sym (odd_after was low high x w ge) ]

pub swept_odd : (was ws part : List ℕ) (low high len : ℕ) → Within was low high → high ≤ len → len ≤ length ws → ((x : ℕ) → x < 64 * high → bit_at ws x ≡ odd_below (bit_at was) (suc x)) →
    ((i : ℕ) → i < length part → get_or part i 0 ≡ 18446744073709551615) → length part ≡ len - high → true ≡ odd_below (bit_at was) (64 * high) →
    (x : ℕ) → x < 64 * len → bit_at (put_mid high (len - high) ws part) x ≡ odd_below (bit_at was) (suc x)
swept_odd was ws part low high len w order le swept ones all odd x lt =
    elim (cases_lt x (64 * high)) [
      | inl before ↦ ap (λ v. bit v (x % 64)) (put_before high (len - high) ws part (x / 64) 0 (omega arith) (omega arith)) ∙ swept x before
      | inr ge ↦
          ap (λ v. bit v (x % 64)) (put_in high (len - high) ws part (x / 64) 0 (omega arith) (omega arith) (omega arith) ∙ ones (x / 64 - high) (omega arith))
          ∙ bit_ones (x % 64) (mod-lt x {m = 64} (omega arith)) ∙ odd ∙ sym (odd_after was low high x w ge)
    ]
