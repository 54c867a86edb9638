-- Laws of tokens, each a statement whose proof is owed where a function's contract names it. Assumes nothing: these are definitions.
use Rattle.std.specs.Prelude.{◌≡◌, ℕ, Bool}
use Rattle.tokens.specs.Token.{Tokens, all_written, AllInRange}
use Rattle.tokens.specs.Stored.{all_stored, decode}

-- the written form of tokens is that of no other tokens
abbrev pub ReadsBack : Type 0
ReadsBack = (a b : Tokens) → all_written a ≡ all_written b → a ≡ b

-- tokens in range that were stored are read back as they were
abbrev pub StoredReadsBack : Type 0
StoredReadsBack = (can : ℕ → Bool) (ts : Tokens) → AllInRange can ts → decode (all_stored ts) ≡ ts
