-- A row of bits in words of 64: which bit is set, parities, and the words that may be set. Cited by every contract of this crate. Assumes nothing: these are definitions.
use Rattle.std.specs.Prelude.{◌≡◌, ℕ, zero, suc, ◌/◌, ◌%◌, ◌^◌, ◌<◌, ◌≤◌, Bool, false, List, length, ◌==◌, slice_index}
use Rattle.std.specs.Bool.{xor}

unfoldable pub bit : ℕ → ℕ → Bool
bit word k = word / 2 ^ k % 2 == 1

abbrev pub bit_at : List ℕ → ℕ → Bool
bit_at words x = bit (slice_index words (x / 64)) (x % 64)

-- whether f is true of an odd number of those below n
unfoldable pub odd_below : (ℕ → Bool) → ℕ → Bool
odd_below f zero = false
odd_below f (suc n) = xor (f n) (odd_below f n)

-- all words below `low` and from `high` on are 0
abbrev pub Within : List ℕ → ℕ → ℕ → Type 0
Within words low high = (high ≤ length words) × ((i : ℕ) → i < low → slice_index words i ≡ 0) × ((i : ℕ) → high ≤ i → slice_index words i ≡ 0)

abbrev pub Empty : List ℕ → Type 0
Empty words = (i : ℕ) → slice_index words i ≡ 0
