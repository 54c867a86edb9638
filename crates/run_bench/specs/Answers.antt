-- What is told of a text by one number. Cited by the contract of text_count_tokens. Assumes nothing: these are definitions.
use Rattle.std.specs.Prelude.{◌≡◌, ℕ}
use Rattle.tokens.specs.Token.{size}
use Rattle.lexer.specs.Reading.{Read, refused, tokens}

abbrev pub Counted : ℕ → Read → Type 0
Counted r (refused k p) = r ≡ 18446744073709551615
Counted r (tokens ts) = r ≡ size ts
