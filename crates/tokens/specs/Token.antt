-- Tokens: numbers, operators, names, quoted names, and bodies, which are rows of tokens. Cited by Reading, Stored and the machine. Assumes nothing: these are definitions.
use Rattle.std.specs.Prelude.{◌≡◌, ℕ, ◌+◌, ◌<◌, Bool, true, List, [], ◌∷◌, ◌++◌}

-- the operators, in the order of their numbers
pub data Operator : Type 0 where
  adds : Operator
  takes : Operator
  multiplies : Operator
  divides : Operator
  is_less : Operator
  copies : Operator
  drops : Operator
  swaps : Operator
  defines : Operator
  repeats : Operator
  when : Operator
  moves : Operator
  lines : Operator
  fills : Operator
  clips_by : Operator
  greys : Operator
  shifts : Operator
  scales : Operator
  keeps : Operator
  back : Operator
  shows : Operator

unfoldable pub number_of : Operator → ℕ
number_of adds = 0
number_of takes = 1
number_of multiplies = 2
number_of divides = 3
number_of is_less = 4
number_of copies = 5
number_of drops = 6
number_of swaps = 7
number_of defines = 8
number_of repeats = 9
number_of when = 10
number_of moves = 11
number_of lines = 12
number_of fills = 13
number_of clips_by = 14
number_of greys = 15
number_of shifts = 16
number_of scales = 17
number_of keeps = 18
number_of back = 19
number_of shows = 20

mutual
  pub data Token : Type 0 where
    number : ℕ → Token
    does : Operator → Token
    name : ℕ → Token  -- a name that is called
    quoted : ℕ → Token  -- a name as a value, to be defined
    body : Tokens → Token

  pub data Tokens : Type 0 where
    none : Tokens
    more : Token → Tokens → Tokens

-- a row of tokens, the last first, turned round and put before others
unfoldable pub turned : List Token → Tokens → Tokens
turned [] ts = ts
turned (x ∷ xs) ts = turned xs (more x ts)

-- tokens written out as a row of numbers, a body between 4 and 5
abbrev mutual
  pub written : Token → List ℕ
  written (number n) = 0 ∷ (n ∷ [])
  written (does k) = 1 ∷ (number_of k ∷ [])
  written (name k) = 2 ∷ (k ∷ [])
  written (quoted k) = 3 ∷ (k ∷ [])
  written (body ts) = 4 ∷ (all_written ts ++ (5 ∷ []))

  pub all_written : Tokens → List ℕ
  all_written none = []
  all_written (more t ts) = written t ++ all_written ts

-- how many pieces of text tokens come from: a body has its two braces besides
abbrev mutual
  pub size_of : Token → ℕ
  size_of (number n) = 1
  size_of (does k) = 1
  size_of (name k) = 1
  size_of (quoted k) = 1
  size_of (body ts) = 2 + size ts

  pub size : Tokens → ℕ
  size none = 0
  size (more t ts) = size_of t + size ts

-- what a text within the limits can hold, at the operators that may be done
abbrev mutual
  pub InRange : (ℕ → Bool) → Token → Type 0
  InRange can (number n) = n < 2147483648
  InRange can (does k) = can (number_of k) ≡ true
  InRange can (name k) = k < 256
  InRange can (quoted k) = k < 256
  InRange can (body ts) = AllInRange can ts

  pub AllInRange : (ℕ → Bool) → Tokens → Type 0
  AllInRange can none = Unit {0}
  AllInRange can (more t ts) = InRange can t × AllInRange can ts
