-- Bits of a word: of a sum without carry, of a shift, of a power of two, of a word of ones.
use Rattle.std.proofs.Common.{min, ◌≡◌, ℕ, zero, suc, ◌+◌, ◌-◌, ◌*◌, ◌/◌, ◌%◌, ◌^◌, ◌<◌, ◌≤◌, Bool, true, false, ◌&&◌, eqb, sym, refl, ap, ◌∙◌, inl, inr, mod-lt, mul_assoc, zero-add, arith, pow_pos, pow_mono, pow-add, shr-shr}
use mathlib.Core.Bool.{xor}
use native.Mathlib.Nat.{div-eq_of_lt, div-lt_self, add-mul-mod_self_right}
use lib.Bits.{bit_and, bit_xor}
use lib.Pow.{shl-shr, field, mod-mod-pow, pow-lt}
use Rattle.std.proofs.lemmas.Bool.{cases_eq, eq-eqb, ne_eqb}
use Rattle.std.proofs.lemmas.Nat.Bits.{bit_at_xor, bit_at_and, bit_at-lt, bit_at-zero, bit_at-pow_same, bit_at-pow_other, bit_at_ones}
use Rattle.bits.specs.Row.{bit}

-- exclusive or
pub xor_false : (b : Bool) → xor b false ≡ b
unfolding xor
xor_false true = refl
xor_false false = refl

pub false_xor : (b : Bool) → xor false b ≡ b
unfolding xor
false_xor true = refl
false_xor false = refl

pub xor_comm : (a b : Bool) → xor a b ≡ xor b a
unfolding xor
xor_comm true true = refl
xor_comm true false = refl
xor_comm false true = refl
xor_comm false false = refl

pub xor_assoc : (a b c : Bool) → xor (xor a b) c ≡ xor a (xor b c)
unfolding xor
xor_assoc true true true = refl
xor_assoc true true false = refl
xor_assoc true false true = refl
xor_assoc true false false = refl
xor_assoc false true true = refl
xor_assoc false true false = refl
xor_assoc false false true = refl
xor_assoc false false false = refl

pub xor_self : (a : Bool) → xor a a ≡ false
unfolding xor
xor_self true = refl
xor_self false = refl

-- what meets in the middle goes
pub xor_middle : (a b c : Bool) → xor (xor a b) (xor b c) ≡ xor a c
unfolding xor
xor_middle a b c =
    xor_assoc a b (xor b c) ∙ ap (xor a) (sym (xor_assoc b b c) ∙ ap (λ t. xor t c) (xor_self b) ∙ false_xor c)

-- whether a bit is set, of the number that it is
pub bit_xor_lem : (a b k : ℕ) → bit (bit_xor a b) k ≡ xor (bit a k) (bit b k)
unfolding bit xor
bit_xor_lem a b k = ap (λ n. eqb n 1) (bit_at_xor a b k) ∙ either (a / 2 ^ k % 2) (b / 2 ^ k % 2) (bit_at-lt a k) (bit_at-lt b k)
  where
    either : (m n : ℕ) → m < 2 → n < 2 → eqb ((m + n) % 2) 1 ≡ xor (eqb m 1) (eqb n 1)
    either zero zero p q = refl
    either zero (suc zero) p q = refl
    either (suc zero) zero p q = refl
    either (suc zero) (suc zero) p q = refl
    either (suc (suc m)) n p q = absurd (omega arith)
    either m (suc (suc n)) p q = absurd (omega arith)

pub bit_and_lem : (a b k : ℕ) → bit (bit_and a b) k ≡ (bit a k && bit b k)
unfolding bit
bit_and_lem a b k = ap (λ n. eqb n 1) (bit_at_and a b k) ∙ both (a / 2 ^ k % 2) (b / 2 ^ k % 2) (bit_at-lt a k) (bit_at-lt b k)
  where
    both : (m n : ℕ) → m < 2 → n < 2 → eqb (min m n) 1 ≡ (eqb m 1 && eqb n 1)
    both zero zero p q = refl
    both zero (suc zero) p q = refl
    both (suc zero) zero p q = refl
    both (suc zero) (suc zero) p q = refl
    both (suc (suc m)) n p q = absurd (omega arith)
    both m (suc (suc n)) p q = absurd (omega arith)

pub bit_zero : (k : ℕ) → bit 0 k ≡ false
unfolding bit
bit_zero k = ap (λ n. eqb n 1) (bit_at-zero k)

-- the bits of what is left after a shift to the right
pub bit_shr : (n j k : ℕ) → bit (n / 2 ^ j) k ≡ bit n (j + k)
unfolding bit
bit_shr n j k = ap (λ m. eqb (m % 2) 1) (shr-shr n j k)

-- a remainder keeps the bits below
pub bit_mod_below : (a m k : ℕ) → k < m → bit (a % 2 ^ m) k ≡ bit a k
unfolding bit
bit_mod_below a m k lt =
    let e : m ≡ (m - suc k + 1) + k = omega arith in
    ap (λ n. eqb (a % 2 ^ n / 2 ^ k % 2) 1) e
    ∙ ap (λ n. eqb (n % 2) 1) (field a (m - suc k + 1) k)
    ∙ ap (λ n. eqb n 1) (mod-mod-pow (a / 2 ^ k) (m - suc k) 1)

pub bit_mod_above : (a m k : ℕ) → m ≤ k → bit (a % 2 ^ m) k ≡ false
unfolding bit
bit_mod_above a m k le =
    let h = mod-lt a {m = 2 ^ m} (pow_pos m) in
    let p = pow_mono {i = m} {j = k} le in
    ap (λ n. eqb (n % 2) 1) (div-eq_of_lt {n = a % 2 ^ m} {m = 2 ^ k} (omega arith))

-- a shift to the left
bit_times_above : (a j k : ℕ) → j ≤ k → bit (a * 2 ^ j) k ≡ bit a (k - j)
unfolding bit
bit_times_above a j k le =
    let e : k ≡ j + (k - j) = omega arith in
    ap (λ n. eqb (a * 2 ^ j / 2 ^ n % 2) 1) e
    ∙ ap (λ n. eqb (n % 2) 1) (sym (shr-shr (a * 2 ^ j) j (k - j)) ∙ ap (λ n. n / 2 ^ (k - j)) (shl-shr a j))

bit_times_below : (a j k : ℕ) → k < j → bit (a * 2 ^ j) k ≡ false
unfolding bit
bit_times_below a j k lt =
    let e : j ≡ (j - suc k) + 1 + k = omega arith in
    let m = j - suc k in
    let s : a * 2 ^ j ≡ a * 2 ^ m * 2 * 2 ^ k =
    ap (λ n. a * 2 ^ n) e ∙ ap (λ n. a * n) (pow-add 2 (m + 1) k ∙ ap (λ n. n * 2 ^ k) (pow-add 2 m 1)) ∙ sym (mul_assoc a (2 ^ m * 2) (2 ^ k)) ∙ ap (λ n. n * 2 ^ k) (sym (mul_assoc a (2 ^ m) 2)) in
    ap (λ n. eqb (n / 2 ^ k % 2) 1) s
    ∙ ap (λ n. eqb (n % 2) 1) (shl-shr (a * 2 ^ m * 2) k)
    ∙ ap (λ n. eqb n 1) (ap (λ n. n % 2) (sym (zero-add (a * 2 ^ m * 2))) ∙ add-mul-mod_self_right 0 (a * 2 ^ m) 2)

pub bit_shl_above : (a j k : ℕ) → k < 64 → j ≤ k → bit ((a * 2 ^ j) % 2 ^ 64) k ≡ bit a (k - j)
bit_shl_above a j k lt le = bit_mod_below (a * 2 ^ j) 64 k lt ∙ bit_times_above a j k le

pub bit_shl_below : (a j k : ℕ) → k < 64 → k < j → bit ((a * 2 ^ j) % 2 ^ 64) k ≡ false
bit_shl_below a j k lt low = bit_mod_below (a * 2 ^ j) 64 k lt ∙ bit_times_below a j k low

-- a power of two has one bit
pub bit_power : (j k : ℕ) → bit (2 ^ j) k ≡ eqb k j
unfolding bit
bit_power j k =
    elim (cases_eq k j) [
      | inl e ↦ ap (λ n. eqb (2 ^ j / 2 ^ n % 2) 1) e ∙ ap (λ n. eqb n 1) (bit_at-pow_same j) ∙ sym (eq-eqb k j e)
      | inr ne ↦ ap (λ n. eqb n 1) (bit_at-pow_other j k ne) ∙ sym (ne_eqb k j ne)
    ]

pub bit_one : (k : ℕ) → bit 1 k ≡ eqb k 0
bit_one k = bit_power 0 k

-- every bit of a word of ones is set
pub bit_ones : (k : ℕ) → k < 64 → bit 18446744073709551615 k ≡ true
unfolding bit
bit_ones k lt = ap (λ n. eqb n 1) (bit_at_ones 64 k lt)

-- a word without its lowest bits is less
pub shr_less : (n j : ℕ) → 0 < n → 0 < j → n / 2 ^ j < n
shr_less n j some more = div-lt_self some (let p = pow-lt {i = 0} {j = j} more in omega arith)
