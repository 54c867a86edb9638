-- A row that is painted from its beginning on, part by part, and the runs of bits in a word.
use Rattle.std.proofs.Common.{◌≡◌, eqb, w64, ℕ, ◌+◌, ◌-◌, ◌*◌, ◌/◌, ◌%◌, ◌^◌, ◌<◌, ◌≤◌, min, Bool, true, false, cond, List, length, get_or, sym, refl, ap, ◌∙◌, inl, inr, add-zero, mod-lt, arith, pow_mono, shr-shr}
use native.Mathlib.Nat.{div-eq_of_lt}
use borrow.Rule.Slice.PartMut.{put_mid}
use Rattle.std.proofs.lemmas.Bool.{cases_lt, false≢true}
use lib.Count.{count_trailing_zeros}
use Rattle.std.specs.Int.{trailing_ones}
use Rattle.std.proofs.lemmas.Nat.Bits.{bit_at-trailing_ones}
use Rattle.bits.specs.Row.{bit, bit_at}
use Rattle.bits.proofs.BitLaws.{bit_shr, bit_ones}
use Rattle.bits.proofs.RowLaws.{middle, in_middle}
use Rattle.bits.proofs.PartLaws.{put_before, put_in, put_past, put_length}

-- dots before `at` are grey where they are covered, those from there on are as they were
abbrev pub Painted : (ℕ → Bool) → ℕ → List ℕ → List ℕ → ℕ → Type 0
Painted covered grey was dots at =
    ((x : ℕ) → x < length dots → x < at → get_or dots x 0 ≡ cond (covered x) grey (get_or was x 0)) × ((x : ℕ) → at ≤ x → get_or dots x 0 ≡ get_or was x 0)

pub painted_none : (covered : ℕ → Bool) (grey : ℕ) (was : List ℕ) (at : ℕ) → ((x : ℕ) → x < at → covered x ≡ false) → Painted covered grey was was at
painted_none covered grey was at none = (λ x l lt. sym (ap (λ b. cond b grey (get_or was x 0)) (none x lt)), λ x le. refl)

-- one part more, from start to end, each cut to the row's length; what lies between is not covered
pub painted_more : (covered : ℕ → Bool) (grey : ℕ) (was dots part : List ℕ) (at start end s e : ℕ) → Painted covered grey was dots at → at ≤ start → start ≤ end →
    ((x : ℕ) → at ≤ x → x < start → covered x ≡ false) → s ≡ min start (length dots) → e ≡ min end (length dots) → length part ≡ e - s →
    ((i : ℕ) → i < e - s → s ≡ start → get_or part i 0 ≡ cond (covered (start + i)) grey (get_or was (start + i) 0)) → Painted covered grey was (put_mid s (e - s) dots part) end
painted_more covered grey was dots part at start end s e p first order gap is is' len painted =
    let all : length (put_mid s (e - s) dots part) ≡ length dots = put_length s (e - s) dots part (omega arith) len in (
      λ x l lt.
          elim (cases_lt x s) [
            | inl before ↦
                put_before s (e - s) dots part x 0 before (omega arith)
                ∙ elim (cases_lt x at) [
                  | inl done ↦ p.0 x (omega arith) done
                  | inr skipped ↦ p.1 x skipped ∙ sym (ap (λ b. cond b grey (get_or was x 0)) (gap x skipped (omega arith)))
                ]
            | inr inside ↦
                let i = x - s in
                let k : start + (x - s) ≡ x = omega arith in
                put_in s (e - s) dots part x 0 inside (omega arith) (omega arith) ∙ painted (x - s) (omega arith) (omega arith)
                ∙ ap (λ n. cond (covered n) grey (get_or was n 0)) k
          ],
      λ x le. put_past s (e - s) dots part x 0 (omega arith) len (omega arith) ∙ p.1 x (omega arith),
    )

pub painted_all : (covered : ℕ → Bool) (grey : ℕ) (was dots : List ℕ) (at : ℕ) → Painted covered grey was dots at → ((x : ℕ) → at ≤ x → x < length dots → covered x ≡ false) →
    (x : ℕ) → x < length dots → get_or dots x 0 ≡ cond (covered x) grey (get_or was x 0)
painted_all covered grey was dots at p none x lt =
    elim (cases_lt x at) [ inl done ↦ p.0 x lt done | inr le ↦ p.1 x le ∙ sym (ap (λ b. cond b grey (get_or was x 0)) (none x le lt)) ]

-- what is left of a word
pub rest_few : (word from rest : ℕ) → rest ≡ word / 2 ^ from → word < 2 ^ 64 → 0 < rest → from < 64
rest_few word from rest e lt some =
    elim (cases_lt from 64) [
      | inl few ↦ few
      | inr many ↦
          let p = pow_mono {i = 64} {j = from} many in
          let z = div-eq_of_lt {n = word} {m = 2 ^ from} (omega arith) in
          omega arith
    ]

pub rest_bit : (word from rest k : ℕ) → rest ≡ word / 2 ^ from → bit rest k ≡ bit word (from + k)
rest_bit word from rest k e = ap (λ w. bit w k) e ∙ bit_shr word from k

pub rest_more : (word from rest skip run : ℕ) → rest ≡ word / 2 ^ from → rest / 2 ^ skip / 2 ^ run ≡ word / 2 ^ (from + skip + run)
rest_more word from rest skip run e = ap (λ w. w / 2 ^ skip / 2 ^ run) e ∙ ap (λ w. w / 2 ^ run) (shr-shr word from skip) ∙ shr-shr word (from + skip) run

-- the run of set bits that begins at `skip`
pub run_bit : (word from rest skip k : ℕ) → rest ≡ word / 2 ^ from → bit (rest / 2 ^ skip) k ≡ bit word (from + skip + k)
run_bit word from rest skip k e = let s : from + (skip + k) ≡ from + skip + k = omega arith in bit_shr rest skip k ∙ rest_bit word from rest (skip + k) e ∙ ap (bit word) s

pub run_some : (set rest skip run : ℕ) → set ≡ rest / 2 ^ skip → bit rest skip ≡ true → (run < 64 → bit set run ≡ false) → 0 < run
run_some set rest skip run e at ends =
    elim (cases_lt 0 run) [
      | inl some ↦ some
      | inr none ↦
          let z : run ≡ 0 = omega arith in
          let a : bit set run ≡ true = ap (bit set) z ∙ ap (λ w. bit w 0) e ∙ bit_shr rest skip 0 ∙ ap (bit rest) (add-zero skip) ∙ at in
          absurd (false≢true (sym (ends (omega arith)) ∙ a))
    ]

-- how far the lowest bits of a word are all set
pub set_run : (word run : ℕ) → word < 2 ^ 64 → run ≡ trailing_ones w64 word → (run ≤ 64) × ((k : ℕ) → k < run → bit word k ≡ true) × (run < 64 → bit word run ≡ false)
unfolding bit count_trailing_zeros
set_run word run fits is =
    elim (cases_lt (word + 1) (2 ^ 64)) [
      | inl some ↦
          let place = bit_at-trailing_ones w64 word some in
          (omega arith, λ k lt. ap (λ n. eqb n 1) (place.2 k (omega arith)), λ lt. ap (λ n. eqb (word / 2 ^ n % 2) 1) is ∙ ap (λ n. eqb n 1) place.1)
      | inr all ↦
          let full : word ≡ 18446744073709551615 = omega arith in
          let most : run ≡ 64 = is ∙ ap (trailing_ones w64) full in
          (omega arith, λ k lt. ap (λ w. bit w k) full ∙ bit_ones k (omega arith), λ lt. absurd (omega arith))
    ]

-- a dot in a run of full words
pub full_bit : (ws : List ℕ) (i high run x : ℕ) → 64 * i ≤ x → x < 64 * (i + run) → run ≤ high - i → ((k : ℕ) → k < run → get_or (middle ws i high) k 0 ≡ 18446744073709551615) → bit_at ws x ≡ true
full_bit ws i high run x from to few full =
    let at : i + (x / 64 - i) ≡ x / 64 = omega arith in
    let word : get_or ws (x / 64) 0 ≡ 18446744073709551615 = sym (ap (λ n. get_or ws n 0) at) ∙ sym (in_middle ws i high (x / 64 - i) (omega arith)) ∙ full (x / 64 - i) (omega arith) in
    ap (λ w. bit w (x % 64)) word ∙ bit_ones (x % 64) (mod-lt x {m = 64} (omega arith))
