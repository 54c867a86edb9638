-- Tokens as they are stored: two words for each, its kind and its number; a body's number is how many words it has, and they follow. Any words can be read. Cited by the reader, the machine and the session. Assumes nothing: these are definitions.
use Rattle.std.specs.Prelude.{◌≡◌, ℕ, zero, suc, ◌%◌, ◌<◌, cond, List, [], ◌∷◌, ◌++◌, length, take, drop, Some, None, Option, Ok, Err, Result, ◌==◌, nat_lt, slice_index}
use Rattle.std.specs.Borrow.{Bor}
use Rattle.tokens.specs.Token.{Token, number, does, name, quoted, body, Tokens, none, more, Operator, number_of, adds, takes, multiplies, divides, is_less, copies, drops, swaps, defines, repeats, when, moves, lines, fills, clips_by, greys, shifts, scales, keeps, back, shows}
use Rattle.tokens.specs.declared.operator.Operator as code_operator
use Rattle.tokens.specs.declared.operator.UnknownOperator as Unknown
use Rattle.tokens.specs.declared.Token as code_token

unfoldable mutual
  pub stored : Token → List ℕ
  stored (number n) = 0 ∷ (n ∷ [])
  stored (does k) = 1 ∷ (number_of k ∷ [])
  stored (name k) = 2 ∷ (k ∷ [])
  stored (quoted k) = 3 ∷ (k ∷ [])
  stored (body ts) = 4 ∷ (length (all_stored ts) ∷ all_stored ts)

  pub all_stored : Tokens → List ℕ
  all_stored none = []
  all_stored (more t ts) = stored t ++ all_stored ts

-- the operator that has a number
abbrev pub operator_at : ℕ → Option Operator
operator_at n =
    (cond (n == 0) (Some adds)
    (cond (n == 1) (Some takes)
    (cond (n == 2) (Some multiplies)
    (cond (n == 3) (Some divides)
    (cond (n == 4) (Some is_less)
    (cond (n == 5) (Some copies)
    (cond (n == 6) (Some drops)
    (cond (n == 7) (Some swaps)
    (cond (n == 8) (Some defines)
    (cond (n == 9) (Some repeats)
    (cond (n == 10) (Some when)
    (cond (n == 11) (Some moves)
    (cond (n == 12) (Some lines)
    (cond (n == 13) (Some fills)
    (cond (n == 14) (Some clips_by)
    (cond (n == 15) (Some greys)
    (cond (n == 16) (Some shifts)
    (cond (n == 17) (Some scales)
    (cond (n == 18) (Some keeps)
    (cond (n == 19) (Some back)
    (cond (n == 20) (Some shows)
    None)))))))))))))))))))))

-- what stands first in some words: nothing that can be read, a token of two words, or a body's words; and the words after it
pub data Head : Type 0 where
  over : Head
  plain : Token → List ℕ → Head
  nested : List ℕ → List ℕ → Head

abbrev pub operator_head : Option Operator → List ℕ → Head
operator_head None rest = over
operator_head (Some k) rest = plain (does k) rest

-- by the kind; numbers are cut to their range, an operator or a kind that there is not ends the row, and a body has at most what is there
abbrev pub by_kind : ℕ → ℕ → List ℕ → Head
by_kind kind n rest =
    cond (kind == 0) (plain (number (n % 2147483648)) rest)
    (cond (kind == 1) (operator_head (operator_at n) rest)
    (cond (kind == 2) (plain (name (n % 256)) rest)
    (cond (kind == 3) (plain (quoted (n % 256)) rest)
    (cond (kind == 4) (nested (take n rest) (drop n rest)) over))))

unfoldable pub head_of : List ℕ → Head
head_of ws = cond (nat_lt (length ws) 2) over (by_kind (slice_index ws 0) (slice_index ws 1) (drop 2 ws))

abbrev pub by_head : (List ℕ → Tokens) → Head → Tokens
by_head f over = none
by_head f (plain t rest) = more t (f rest)
by_head f (nested words rest) = more (body (f words)) (f rest)

-- with as much fuel as there are words; more would make no difference
unfoldable pub decode_in : ℕ → List ℕ → Tokens
decode_in zero ws = none
decode_in (suc n) ws = by_head (λ v. decode_in n v) (head_of ws)

unfoldable pub decode : List ℕ → Tokens
decode ws = decode_in (length ws) ws

-- what the code's operators and tokens mean
abbrev pub operator_of : code_operator.Operator → Operator
operator_of code_operator.TheVariants.Adds = adds
operator_of code_operator.TheVariants.Takes = takes
operator_of code_operator.TheVariants.Multiplies = multiplies
operator_of code_operator.TheVariants.Divides = divides
operator_of code_operator.TheVariants.IsLess = is_less
operator_of code_operator.TheVariants.Copies = copies
operator_of code_operator.TheVariants.Drops = drops
operator_of code_operator.TheVariants.Swaps = swaps
operator_of code_operator.TheVariants.Defines = defines
operator_of code_operator.TheVariants.Repeats = repeats
operator_of code_operator.TheVariants.When = when
operator_of code_operator.TheVariants.Moves = moves
operator_of code_operator.TheVariants.Lines = lines
operator_of code_operator.TheVariants.Fills = fills
operator_of code_operator.TheVariants.ClipsBy = clips_by
operator_of code_operator.TheVariants.Greys = greys
operator_of code_operator.TheVariants.Shifts = shifts
operator_of code_operator.TheVariants.Scales = scales
operator_of code_operator.TheVariants.Keeps = keeps
operator_of code_operator.TheVariants.Back = back
operator_of code_operator.TheVariants.Shows = shows

-- the operator that a number has, or that none has it
abbrev pub KnownBy : ℕ → Result code_operator.Operator Unknown.UnknownOperator → Type 0
KnownBy n (Ok op) = operator_at n ≡ Some (operator_of op)
KnownBy n (Err e) = (operator_at n ≡ None) × (e.0 ≡ n)

abbrev pub token_of : code_token.Token → Token
token_of (code_token.TheVariants.Number n) = number n
token_of (code_token.TheVariants.Does op) = does (operator_of op)
token_of (code_token.TheVariants.Name k) = name k
token_of (code_token.TheVariants.Quoted k) = quoted k
token_of (code_token.TheVariants.Body b) = body (decode b.now)

abbrev pub head_with : code_token.Token → List ℕ → Head
head_with (code_token.TheVariants.Number n) rest = plain (number n) rest
head_with (code_token.TheVariants.Does op) rest = plain (does (operator_of op)) rest
head_with (code_token.TheVariants.Name k) rest = plain (name k) rest
head_with (code_token.TheVariants.Quoted k) rest = plain (quoted k) rest
head_with (code_token.TheVariants.Body b) rest = nested b.now rest

-- the next token and the words after it, as a head, and as the row that they begin
abbrev pub seen : Option (code_token.Token × Bor (List ℕ)) → Head
seen None = over
seen (Some p) = head_with p.0 p.1.now

abbrev pub followed : Option (code_token.Token × Bor (List ℕ)) → Tokens
followed None = none
followed (Some p) = more (token_of p.0) (decode p.1.now)

abbrev pub Shorter : ℕ → Option (code_token.Token × Bor (List ℕ)) → Type 0
Shorter n None = Unit {0}
Shorter n (Some p) = length p.1.now < n

-- what is to be known of the next token of some words: what stands first in them, what they read as, and that fewer are left
pub record NextToken (r : Option (code_token.Token × Bor (List ℕ))) (ws : List ℕ) : Type 0 where
  pub head : seen r ≡ head_of ws
  pub value : followed r ≡ decode ws
  pub len : Shorter (length ws) r
