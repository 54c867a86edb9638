-- The table of names that a text has used so far. Cited by the contracts of the passes over a text. Assumes nothing: these are definitions.
use Rattle.std.specs.Prelude.{◌≡◌, ℕ, ◌<◌, false, List, map, take, Some, None, Option, nat_lt}
use Rattle.std.specs.Borrow.{Bor}
use Rattle.lexer.specs.Reading.{place_of, with_word}
use Rattle.words.specs.declared.names.Names.{Names}

-- the words that some references point to
abbrev pub words_in : List (Bor (List ℕ)) → List (List ℕ)
words_in ns = map (λ r. r.now) ns

-- the words of a table, of which the first places are used
abbrev pub words_of : Names → List (List ℕ)
words_of n = words_in (take n.count n.words.now)

-- a word is entered: its number is its place among the words, and the table then has it; or there is no room for it, and the table is as it was
abbrev pub Entered : Option ℕ → List ℕ → Names → Names → Type 0
Entered None w n m = (nat_lt (place_of (words_of n) w) 256 ≡ false) × (m ≡ n)
Entered (Some k) w n m = (k ≡ place_of (words_of n) w) × (k < 256) × (words_of m ≡ with_word (words_of n) w)
