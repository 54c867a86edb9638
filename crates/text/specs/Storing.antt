-- Storing a text's tokens: what a row of tokens needs before it is stored, and what the words hold after it. Cited by the contracts of storing. Assumes nothing: these are definitions.
use Rattle.std.specs.Prelude.{◌≡◌, ℕ, ◌+◌, ◌-◌, ◌*◌, ◌<◌, ◌≤◌, Bool, List, [], ◌∷◌, ◌++◌, length, take, drop, Ok, Err, Result}
use Rattle.tokens.specs.declared.Token as code_token
use Rattle.text.specs.declared.refusal.Refusal.{Refusal}
use Rattle.tokens.specs.Token.{Token, body, Tokens, none, number_of, size, turned}
use Rattle.lexer.specs.Reading.{Piece, fine, cannot_read, above_limit, build, Read, refused, tokens}
use Rattle.text.specs.Refusing.{refusal_number, refusal_place}
use Rattle.tokens.specs.Stored.{operator_of, all_stored}

-- the two words that a token begins with: its kind and its number, or how many words a body has
abbrev pub begun_with : code_token.Token → ℕ × ℕ
begun_with (code_token.TheVariants.Number n) = (0, n)
begun_with (code_token.TheVariants.Does op) = (1, number_of (operator_of op))
begun_with (code_token.TheVariants.Name k) = (2, k)
begun_with (code_token.TheVariants.Quoted k) = (3, k)
begun_with (code_token.TheVariants.Body b) = (4, length b.now)

-- pieces that can be read and are within the limits, so many braces being open, at the operators that can be done, and two words are there for each
pub record Ready (can : ℕ → Bool) (len left used room : ℕ) (ps : List Piece) (ws : List (List ℕ)) : Type 0 where
  pub readable : cannot_read ps len left ≡ fine
  pub count : ℕ
  pub within : above_limit ps can count left ws ≡ fine
  pub enough : used + 2 * length ps ≤ room

-- the end of a row: of the whole text, or of a body, which is then a token of the row around it
abbrev pub row_end : Tokens → List Piece → List (List ℕ) → List (List Token) → Tokens
row_end ts ps ws [] = ts
row_end ts ps ws (o ∷ os) = build ps ws (body ts ∷ o) os

-- a row was stored: its tokens, the last first; what the pieces build with them; and the words, of which only the row's are new
pub record StoredRow (can : ℕ → Bool) (len left : ℕ) (ps : List Piece) (ws : List (List ℕ)) (used : ℕ) (words : List ℕ) (qs : List Piece) (vs : List (List ℕ)) (end : ℕ) (stored : List ℕ) : Type 0 where
  pub row : List Token
  pub built : (cur : List Token) (outer : List (List Token)) → length outer ≡ left → build ps ws cur outer ≡ row_end (turned (row ++ cur) none) qs vs outer
  pub front : take end stored ≡ take used words ++ all_stored (turned row none)
  pub behind : drop end stored ≡ drop end words
  pub ends : end ≡ used + length (all_stored (turned row none))
  pub ready : Ready can len (left - 1) end (length words) qs vs

-- what storing answers, and what the words hold then: the stored tokens and behind them what stood there; or a refusal, with all words as they were
abbrev pub StoredAs : Result ℕ Refusal → Read → List ℕ → List ℕ → Type 0
StoredAs (Ok n) (tokens ts) ws vs = (n ≡ length (all_stored ts)) × (vs ≡ all_stored ts ++ drop n ws)
StoredAs (Ok n) (refused k p) ws vs = ⊥
StoredAs (Err e) (tokens ts) ws vs = (refusal_number e ≡ 3) × (refusal_place e ≡ 0) × (length ws < 2 * size ts) × (vs ≡ ws)
StoredAs (Err e) (refused k p) ws vs = (refusal_number e ≡ k) × (refusal_place e ≡ p) × (vs ≡ ws)
