-- What the lexer answers, by the pieces of a text. Cited by the contracts of the lexer and of the passes over it. Assumes nothing: these are definitions.
use Rattle.std.specs.Prelude.{◌≡◌, ℕ, ◌+◌, ◌-◌, ◌<◌, ◌≤◌, ◌⊎◌, min, Bool, true, false, not, ◌||◌, ◌==◌, Ok, Err, Result, List, [], ◌∷◌, length, drop, nat_le, slice_index}
use Rattle.lexer.specs.declared.Lexeme.{Lexeme}
use Rattle.lexer.specs.declared.Lexeme.TheVariants.{End, Open, Close, Number, Word, Quoted, Wrong}
use Rattle.lexer.specs.Reading.{Piece, opens, closes, digits, word, slashed, pieces, between, cannot_read, at, is_space, is_brace, is_letter}

-- the pieces of a text from its byte i on, where nothing has begun
abbrev pub from : List ℕ → ℕ → List Piece
from s i = pieces (drop i s) i between

-- the lexeme at byte i, and the byte j behind it. Digits count up to a cap; something wrong ends all reading at its place
abbrev pub Saw : List ℕ → ℕ → Lexeme → ℕ → Type 0
Saw s i End j = (j ≡ length s) × (from s i ≡ [])
Saw s i (Open p) j = (i < j) × (j ≤ length s) × (from s i ≡ opens p ∷ from s j)
Saw s i (Close p) j = (i < j) × (j ≤ length s) × (from s i ≡ closes p ∷ from s j)
Saw s i (Number p v) j = (i < j) × (j ≤ length s) × ((n : ℕ) × (v ≡ min n 2147483648) × (from s i ≡ digits p n ∷ from s j))
Saw s i (Word p w) j = (i < j) × (j ≤ length s) × (from s i ≡ word p w.now ∷ from s j)
Saw s i (Quoted p w) j = (i < j) × (j ≤ length s) × (from s i ≡ slashed p w.now ∷ from s j)
Saw s i (Wrong p) j = (j ≡ p) × ((len left : ℕ) → cannot_read (from s i) len left ≡ at p)

-- whether a number or a word may end before byte i: the text ends there, or a space, an end of line or a brace stands there
abbrev pub ends_at : List ℕ → ℕ → Bool
ends_at s i = nat_le (length s) i || (is_space (slice_index s i) || is_brace (slice_index s i))

-- a byte that does not end its line
abbrev pub in_line : ℕ → Bool
in_line b = not (b == 10)

-- letters from byte i up to byte r, and no more of them
pub record Run (s : List ℕ) (i r : ℕ) : Type 0 where
  pub bound : i ≤ r
  pub within : r ≤ length s
  pub places : (k : ℕ) → i ≤ k → k < r → (k < length s) × (is_letter (slice_index s k) ≡ true)
  pub stops : r < length s → is_letter (slice_index s r) ≡ false

-- where a word of letters from byte i on ends, or the byte that is wrong: the 32nd letter, or one behind the letters that no word ends at
abbrev pub WordEnd : List ℕ → ℕ → Result ℕ ℕ → Type 0
WordEnd s i (Ok r) = Run s i r × (r - i ≤ 31) × (ends_at s r ≡ true)
WordEnd s i (Err b) = (r : ℕ) × Run s i r × (((31 < r - i) × (b ≡ i + 31)) ⊎ ((r - i ≤ 31) × (ends_at s r ≡ false) × (b ≡ r)))
