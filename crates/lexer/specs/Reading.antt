-- What a text means: its pieces, whether it can be read, whether it is within the limits, and its tokens. Cited by every contract of this crate. Assumes nothing: these are definitions.
use Rattle.std.specs.Prelude.{ℕ, suc, ◌+◌, ◌-◌, ◌*◌, Bool, true, false, cond, not, ◌&&◌, ◌||◌, List, [], ◌∷◌, ◌++◌, length, ◌==◌, nat_le, nat_lt}
use Rattle.tokens.specs.Token.{Token, number, does, name, quoted, body, Tokens, none, turned, Operator, number_of, adds, takes, multiplies, divides, is_less, copies, drops, swaps, defines, repeats, when, moves, lines, fills, clips_by, greys, shifts, scales, keeps, back, shows}

-- a piece of text (the code's lexeme), with the byte at which it begins; `wrong` is a byte that cannot stand where it stands
pub data Piece : Type 0 where
  opens : ℕ → Piece
  closes : ℕ → Piece
  digits : ℕ → ℕ → Piece  -- where it begins, what it comes to
  word : ℕ → List ℕ → Piece
  slashed : ℕ → List ℕ → Piece
  wrong : ℕ → Piece

-- what is being read at a byte: nothing, a number, a word, a quoted word, a remark
pub data Within : Type 0 where
  between : Within
  a_number : ℕ → ℕ → Within
  a_word : ℕ → List ℕ → Within
  a_quoted : ℕ → List ℕ → Within
  a_remark : Within

abbrev pub is_space : ℕ → Bool
is_space b = b == 32 || b == 10

abbrev pub is_digit : ℕ → Bool
is_digit b = nat_le 48 b && nat_le b 57

abbrev pub is_letter : ℕ → Bool
is_letter b = (nat_le 97 b && nat_le b 122) || b == 45

-- what was read so far is a piece, if it can be one; n is where it ended
unfoldable pub finished : Within → ℕ → List Piece
finished between n = []
finished (a_number at v) n = digits at v ∷ []
finished (a_word at w) n = cond (nat_le (length w) 31) (word at w ∷ []) (wrong (at + 31) ∷ [])
finished (a_quoted at w) n = cond (length w == 0) (wrong n ∷ []) (cond (nat_le (length w) 31) (slashed at w ∷ []) (wrong (at + 32) ∷ []))
finished a_remark n = []

-- a byte with which something new begins
unfoldable pub begun : ℕ → ℕ → Within
begun b n = cond (is_digit b) (a_number n (b - 48)) (cond (is_letter b) (a_word n (b ∷ [])) (cond (b == 47) (a_quoted n []) (cond (b == 37) a_remark between)))

abbrev pub braces : ℕ → ℕ → List Piece
braces b n = cond (b == 123) (opens n ∷ []) (closes n ∷ [])

abbrev pub is_brace : ℕ → Bool
is_brace b = b == 123 || b == 125

abbrev pub may_begin : ℕ → Bool
may_begin b = is_digit b || (is_letter b || (b == 47 || b == 37))

unfoldable pub goes_on : Within → ℕ → Bool
goes_on between b = false
goes_on (a_number at v) b = is_digit b
goes_on (a_word at w) b = is_letter b
goes_on (a_quoted at w) b = is_letter b
goes_on a_remark b = not (b == 10)

unfoldable pub with_byte : Within → ℕ → Within
with_byte between b = between
with_byte (a_number at v) b = a_number at (10 * v + (b - 48))
with_byte (a_word at w) b = a_word at (w ++ (b ∷ []))
with_byte (a_quoted at w) b = a_quoted at (w ++ (b ∷ []))
with_byte a_remark b = a_remark

unfoldable pub is_between : Within → Bool
is_between between = true
is_between (a_number at v) = false
is_between (a_word at w) = false
is_between (a_quoted at w) = false
is_between a_remark = false

-- the pieces of a text from byte n on: a piece ends at a space, an end of line or a brace; something else in or after it is wrong
unfoldable pub pieces : List ℕ → ℕ → Within → List Piece
pieces [] n w = finished w n
pieces (b ∷ bs) n w =
    cond (goes_on w b) (pieces bs (suc n) (with_byte w b))
    (cond (is_space b) (finished w n ++ pieces bs (suc n) between)
    (cond (is_brace b) (finished w n ++ (braces b n ++ pieces bs (suc n) between))
    (cond (is_between w && may_begin b) (pieces bs (suc n) (begun b n)) (finished w n ++ (wrong n ∷ pieces bs (suc n) between)))))

-- refusal 1: the first piece that is wrong, a brace that closes nothing, or the text's length if a brace is left open
pub data Fault : Type 0 where
  fine : Fault
  at : ℕ → Fault

unfoldable pub cannot_read : List Piece → ℕ → ℕ → Fault
cannot_read [] len left = cond (left == 0) fine (at len)
cannot_read (wrong n ∷ ps) len left = at n
cannot_read (opens n ∷ ps) len left = cannot_read ps len (suc left)
cannot_read (closes n ∷ ps) len left = cond (left == 0) (at n) (cannot_read ps len (left - 1))
cannot_read (digits n v ∷ ps) len left = cannot_read ps len left
cannot_read (word n w ∷ ps) len left = cannot_read ps len left
cannot_read (slashed n w ∷ ps) len left = cannot_read ps len left

-- whether two words are the same, letter by letter
unfoldable pub same_word : List ℕ → List ℕ → Bool
same_word [] [] = true
same_word [] (b ∷ bs) = false
same_word (a ∷ xs) [] = false
same_word (a ∷ xs) (b ∷ bs) = a == b && same_word xs bs

pub data Found : Type 0 where
  operator : Operator → Found
  no_operator : Found

abbrev pub either : List ℕ → List ℕ → Operator → Found → Found
either w v o f = cond (same_word w v) (operator o) f

unfoldable pub as_operator : List ℕ → Found
as_operator w =
    (either w (97 ∷ (100 ∷ (100 ∷ (115 ∷ [])))) adds
    (either w (116 ∷ (97 ∷ (107 ∷ (101 ∷ (115 ∷ []))))) takes
    (either w (109 ∷ (117 ∷ (108 ∷ (116 ∷ (105 ∷ (112 ∷ (108 ∷ (105 ∷ (101 ∷ (115 ∷ [])))))))))) multiplies
    (either w (100 ∷ (105 ∷ (118 ∷ (105 ∷ (100 ∷ (101 ∷ (115 ∷ []))))))) divides
    (either w (105 ∷ (115 ∷ (45 ∷ (108 ∷ (101 ∷ (115 ∷ (115 ∷ []))))))) is_less
    (either w (99 ∷ (111 ∷ (112 ∷ (105 ∷ (101 ∷ (115 ∷ [])))))) copies
    (either w (100 ∷ (114 ∷ (111 ∷ (112 ∷ (115 ∷ []))))) drops
    (either w (115 ∷ (119 ∷ (97 ∷ (112 ∷ (115 ∷ []))))) swaps
    (either w (100 ∷ (101 ∷ (102 ∷ (105 ∷ (110 ∷ (101 ∷ (115 ∷ []))))))) defines
    (either w (114 ∷ (101 ∷ (112 ∷ (101 ∷ (97 ∷ (116 ∷ (115 ∷ []))))))) repeats
    (either w (119 ∷ (104 ∷ (101 ∷ (110 ∷ [])))) when
    (either w (109 ∷ (111 ∷ (118 ∷ (101 ∷ (115 ∷ []))))) moves
    (either w (108 ∷ (105 ∷ (110 ∷ (101 ∷ (115 ∷ []))))) lines
    (either w (102 ∷ (105 ∷ (108 ∷ (108 ∷ (115 ∷ []))))) fills
    (either w (99 ∷ (108 ∷ (105 ∷ (112 ∷ (115 ∷ (45 ∷ (98 ∷ (121 ∷ [])))))))) clips_by
    (either w (103 ∷ (114 ∷ (101 ∷ (121 ∷ (115 ∷ []))))) greys
    (either w (115 ∷ (104 ∷ (105 ∷ (102 ∷ (116 ∷ (115 ∷ [])))))) shifts
    (either w (115 ∷ (99 ∷ (97 ∷ (108 ∷ (101 ∷ (115 ∷ [])))))) scales
    (either w (107 ∷ (101 ∷ (101 ∷ (112 ∷ (115 ∷ []))))) keeps
    (either w (98 ∷ (97 ∷ (99 ∷ (107 ∷ [])))) back
    (either w (115 ∷ (104 ∷ (111 ∷ (119 ∷ (115 ∷ []))))) shows
    no_operator)))))))))))))))))))))

-- where a word stands among those that came before, or how many these are
unfoldable pub place_of : List (List ℕ) → List ℕ → ℕ
place_of [] w = 0
place_of (v ∷ vs) w = cond (same_word v w) 0 (suc (place_of vs w))

unfoldable pub with_word : List (List ℕ) → List ℕ → List (List ℕ)
with_word [] w = w ∷ []
with_word (v ∷ vs) w = cond (same_word v w) (v ∷ vs) (v ∷ with_word vs w)

-- refusal 2: the first piece that is above a limit: how deep, how many tokens, how many names, a number, an operator that cannot be done. A brace counts as a token
unfoldable pub word_limit : Found → (ℕ → Bool) → List (List ℕ) → List ℕ → Bool
word_limit (operator o) can ws w = can (number_of o)
word_limit no_operator can ws w = nat_lt (place_of ws w) 256

unfoldable pub words_after : Found → List (List ℕ) → List ℕ → List (List ℕ)
words_after (operator o) ws w = ws
words_after no_operator ws w = with_word ws w

unfoldable pub above_limit : List Piece → (ℕ → Bool) → ℕ → ℕ → List (List ℕ) → Fault
above_limit [] can count deep ws = fine
above_limit (wrong n ∷ ps) can count deep ws = above_limit ps can count deep ws
above_limit (opens n ∷ ps) can count deep ws = cond (nat_lt count 65536 && nat_lt deep 32) (above_limit ps can (suc count) (suc deep) ws) (at n)
above_limit (closes n ∷ ps) can count deep ws = cond (nat_lt count 65536) (above_limit ps can (suc count) (deep - 1) ws) (at n)
above_limit (digits n v ∷ ps) can count deep ws = cond (nat_lt count 65536 && nat_lt v 2147483648) (above_limit ps can (suc count) deep ws) (at n)
above_limit (slashed n w ∷ ps) can count deep ws = cond (nat_lt count 65536 && nat_lt (place_of ws w) 256) (above_limit ps can (suc count) deep (with_word ws w)) (at n)
above_limit (word n w ∷ ps) can count deep ws =
    cond (nat_lt count 65536 && word_limit (as_operator w) can ws w) (above_limit ps can (suc count) deep (words_after (as_operator w) ws w)) (at n)

unfoldable pub as_token : Found → List (List ℕ) → List ℕ → Token
as_token (operator o) ws w = does o
as_token no_operator ws w = name (place_of ws w)

-- tokens from pieces: rows that are still open, each in reverse, the innermost first. Names are numbered as they come
unfoldable pub build : List Piece → List (List ℕ) → List Token → List (List Token) → Tokens
build [] ws cur outer = turned cur none
build (wrong n ∷ ps) ws cur outer = build ps ws cur outer
build (opens n ∷ ps) ws cur outer = build ps ws [] (cur ∷ outer)
build (closes n ∷ ps) ws cur [] = build ps ws cur []
build (closes n ∷ ps) ws cur (o ∷ os) = build ps ws (body (turned cur none) ∷ o) os
build (digits n v ∷ ps) ws cur outer = build ps ws (number v ∷ cur) outer
build (slashed n w ∷ ps) ws cur outer = build ps (with_word ws w) (quoted (place_of ws w) ∷ cur) outer
build (word n w ∷ ps) ws cur outer = build ps (words_after (as_operator w) ws w) (as_token (as_operator w) ws w ∷ cur) outer

-- a text is refused, by 1 at the first thing that cannot be read, else by 2 if it is too long or at the first thing above a limit; or it is tokens
pub data Read : Type 0 where
  refused : ℕ → ℕ → Read
  tokens : Tokens → Read

unfoldable pub unless : Fault → ℕ → Read → Read
unless fine k r = r
unless (at n) k r = refused k n

abbrev pub read : (ℕ → Bool) → List ℕ → Read
read can bs =
    let ps : List Piece = pieces bs 0 between in
    unless (cannot_read ps (length bs) 0) 1 (cond (nat_lt (length bs) 16777216) (unless (above_limit ps can 0 0 []) 2 (tokens (build ps [] [] []))) (refused 2 0))
