-- Laws of reading, each a statement whose proof is owed where a function's contract names it. Assumes nothing: these are definitions.
use Rattle.std.specs.Prelude.{◌≡◌, ℕ, ◌+◌, ◌<◌, Bool, true, List, ◌∷◌, ◌++◌, length}
use Rattle.tokens.specs.Token.{Tokens}
use Rattle.tokens.specs.Stage.{thin, whole}
use Rattle.lexer.specs.Reading.{Read, refused, tokens, read}

-- a text with one more space where there is one reads the same: the same tokens, or refused by the same number
unfoldable pub same_read : Read → Read → Type 0
same_read (refused k p) (refused j q) = j ≡ k
same_read (refused k p) (tokens ts) = ⊥
same_read (tokens ts) (refused k p) = ⊥
same_read (tokens ts) (tokens us) = ts ≡ us

abbrev pub SpacesFree : Type 0
SpacesFree = (can : ℕ → Bool) (xs ys : List ℕ) → length xs + length ys < 16777214 → same_read (read can (xs ++ (32 ∷ ys))) (read can (xs ++ (32 ∷ (32 ∷ ys))))

-- where more operators may be done, a text that is tokens is the same tokens
abbrev pub WiderReads : Type 0
WiderReads = (can also : ℕ → Bool) → ((k : ℕ) → can k ≡ true → also k ≡ true) → (bs : List ℕ) (ts : Tokens) → read can bs ≡ tokens ts → read also bs ≡ tokens ts

-- so texts of the first stage keep their tokens where every operator may be done
abbrev pub FirstStageKept : Type 0
FirstStageKept = (bs : List ℕ) (ts : Tokens) → read thin bs ≡ tokens ts → read whole bs ≡ tokens ts
