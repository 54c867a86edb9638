-- A text that is written over bytes from the front on; what does not fit is counted and not written. Cited by the writer and by the sink of a listing. Assumes nothing: these are definitions.
use Rattle.std.specs.Prelude.{◌≡◌, ℕ, ◌+◌, min, List, [], ◌∷◌, slice_set}

-- how many bytes of text have come, at most 2^64 - 1, and the bytes
pub record Output : Type 0 where
  pub at : ℕ
  pub bytes : List ℕ

abbrev pub output : ℕ → List ℕ → Output
output n bs = record { at = n; bytes = bs }

abbrev pub put_byte : ℕ → Output → Output
put_byte b o = output (min (o.at + 1) 18446744073709551615) (slice_set o.bytes o.at b)

unfoldable pub put_text : List ℕ → Output → Output
put_text [] o = o
put_text (b ∷ bs) o = put_text bs (put_byte b o)

-- between an output and another a text was written
pub record Wrote (text : List ℕ) (before after : Output) : Type 0 where
  pub is : after ≡ put_text text before
