-- A text that can be read has as many tokens as pieces, where a body counts its two braces.
use Rattle.std.proofs.Common.{◌≡◌, ℕ, suc, ◌+◌, ◌-◌, List, [], ◌∷◌, length, refl, arith}
use Rattle.std.proofs.lemmas.Bool.{eqb-true}
use Rattle.tokens.specs.Token.{Token, number, quoted, Tokens, none, more, body, size, size_of, turned}
use Rattle.lexer.specs.Reading.{Piece, opens, closes, digits, word, slashed, wrong, fine, cannot_read, Found, operator, no_operator, as_operator, words_after, with_word, place_of, as_token, build}
use Rattle.lexer.proofs.Faults.{not_fine, passed, failed}

-- the tokens of a row that is still open, and the rows around it, each with the brace that opened the next
abbrev pub row_size : List Token → ℕ
row_size [] = 0
row_size (t ∷ ts) = size_of t + row_size ts

abbrev pub rows_size : List (List Token) → ℕ
rows_size [] = 0
rows_size (r ∷ rs) = suc (row_size r + rows_size rs)

pub size_turned : (xs : List Token) (ts : Tokens) → size (turned xs ts) ≡ row_size xs + size ts
unfolding turned
size_turned [] ts = omega arith
size_turned (x ∷ xs) ts = let h = size_turned xs (more x ts) in omega arith

one_token : (f : Found) (ws : List (List ℕ)) (w : List ℕ) → size_of (as_token f ws w) ≡ 1
unfolding as_token
one_token (operator o) ws w = refl
one_token no_operator ws w = refl

pub counted_on : (ps : List Piece) (ws : List (List ℕ)) (cur : List Token) (outer : List (List Token)) (len : ℕ) → cannot_read ps len (length outer) ≡ fine → size (build ps ws cur outer) ≡ length ps + (row_size cur + rows_size outer)
unfolding cannot_read build
counted_on [] ws cur [] len e = let h = size_turned cur none in omega arith
counted_on [] ws cur (o ∷ os) len e = let h = eqb-true (suc (length os)) 0 (passed _ fine len e).0 in absurd (omega arith)
counted_on (wrong n ∷ ps) ws cur outer len e = absurd (not_fine n e)
counted_on (opens n ∷ ps) ws cur outer len e = let h = counted_on ps ws [] (cur ∷ outer) len e in omega arith
counted_on (closes n ∷ ps) ws cur [] len e = absurd (not_fine n e)
counted_on (closes n ∷ ps) ws cur (o ∷ os) len e =
    let l : suc (length os) - 1 ≡ length os = omega arith in
    let f : cannot_read ps len (suc (length os) - 1) ≡ fine = (failed _ (cannot_read ps len (suc (length os) - 1)) n e).1 in
    let h = counted_on ps ws (body (turned cur none) ∷ o) os len (rw l at f) in
    let t = size_turned cur none in
    omega arith
counted_on (digits n v ∷ ps) ws cur outer len e = let h = counted_on ps ws (number v ∷ cur) outer len e in omega arith
counted_on (slashed n w ∷ ps) ws cur outer len e = let h = counted_on ps (with_word ws w) (quoted (place_of ws w) ∷ cur) outer len e in omega arith
counted_on (word n w ∷ ps) ws cur outer len e =
    let h = counted_on ps (words_after (as_operator w) ws w) (as_token (as_operator w) ws w ∷ cur) outer len e in
    let o = one_token (as_operator w) ws w in
    omega arith

pub counted : (ps : List Piece) (ws : List (List ℕ)) (len : ℕ) → cannot_read ps len 0 ≡ fine → size (build ps ws [] []) ≡ length ps
counted ps ws len e = let h = counted_on ps ws [] [] len e in omega arith
