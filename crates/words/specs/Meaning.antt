-- What a lexeme means: the piece that it stands for, the token that it is, the names that are known after it, and whether it is within the limits. Cited by the contracts of the passes over a text. Assumes nothing: these are definitions.
use Rattle.std.specs.Prelude.{◌≡◌, ℕ, min, Bool, true, false, List, Some, None, Option, nat_lt}
use Rattle.lexer.specs.declared.Lexeme.{Lexeme}
use Rattle.lexer.specs.declared.Lexeme.TheVariants.{End, Open, Close, Number, Word, Quoted, Wrong}
use Rattle.tokens.specs.declared.Token as code_token
use Rattle.tokens.specs.Token.{Token, number, quoted}
use Rattle.lexer.specs.Reading.{Piece, opens, closes, digits, word, slashed, wrong, as_operator, as_token, word_limit, words_after, place_of, with_word}
use Rattle.tokens.specs.Stored.{token_of}
use Rattle.words.specs.Naming.{words_of}
use Rattle.words.specs.declared.names.Names.{Names}

-- the piece that a lexeme stands for; digits count up to a cap
abbrev pub Stands : Lexeme → Piece → Type 0
Stands End q = ⊥
Stands (Open p) q = q ≡ opens p
Stands (Close p) q = q ≡ closes p
Stands (Number p v) q = (n : ℕ) × (v ≡ min n 2147483648) × (q ≡ digits p n)
Stands (Word p w) q = q ≡ word p w.now
Stands (Quoted p w) q = q ≡ slashed p w.now
Stands (Wrong p) q = ⊥

-- a number or a word, and not a brace
abbrev pub Plain : Piece → Type 0
Plain (opens n) = ⊥
Plain (closes n) = ⊥
Plain (digits n v) = Unit {0}
Plain (word n w) = Unit {0}
Plain (slashed n w) = Unit {0}
Plain (wrong n) = ⊥

-- whether it is within the limits of a stage, by the operators that it can do; the token that it is, and the names known after it
abbrev pub plain_limit : (ℕ → Bool) → Piece → List (List ℕ) → Bool
plain_limit can (opens n) ws = false
plain_limit can (closes n) ws = false
plain_limit can (digits n v) ws = nat_lt v 2147483648
plain_limit can (word n w) ws = word_limit (as_operator w) can ws w
plain_limit can (slashed n w) ws = nat_lt (place_of ws w) 256
plain_limit can (wrong n) ws = false

abbrev pub plain_token : Piece → List (List ℕ) → Token
plain_token (opens n) ws = number 0
plain_token (closes n) ws = number 0
plain_token (digits n v) ws = number v
plain_token (word n w) ws = as_token (as_operator w) ws w
plain_token (slashed n w) ws = quoted (place_of ws w)
plain_token (wrong n) ws = number 0

abbrev pub plain_names : Piece → List (List ℕ) → List (List ℕ)
plain_names (opens n) ws = ws
plain_names (closes n) ws = ws
plain_names (digits n v) ws = ws
plain_names (word n w) ws = words_after (as_operator w) ws w
plain_names (slashed n w) ws = with_word ws w
plain_names (wrong n) ws = ws

-- what reading a word comes to: nothing where it is above a limit, else its token, and the words of the table then
abbrev pub ReadAs : Bool → Token → List (List ℕ) → Option code_token.Token → Names → Type 0
ReadAs within t ws None m = within ≡ false
ReadAs within t ws (Some x) m = (within ≡ true) × (token_of x ≡ t) × (words_of m ≡ ws)

abbrev pub WordRead : (ℕ → Bool) → Option code_token.Token → List ℕ → Names → Names → Type 0
WordRead can r w n m = ReadAs (word_limit (as_operator w) can (words_of n) w) (as_token (as_operator w) (words_of n) w) (words_after (as_operator w) (words_of n) w) r m

-- the same for every piece that a lexeme of a number or a word stands for
abbrev pub PlainRead : (ℕ → Bool) → Option code_token.Token → Lexeme → Names → Names → Type 0
PlainRead can r x n m = (q : Piece) → Stands x q → Plain q → ReadAs (plain_limit can q (words_of n)) (plain_token q (words_of n)) (plain_names q (words_of n)) r m
