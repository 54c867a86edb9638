-- Tokens from pieces within the limits are in range, whatever is read besides.
use Rattle.std.proofs.Common.{◌≡◌, ℕ, suc, ◌-◌, Bool, true, false, cond, ltb, List, [], ◌∷◌, length, refl, subst, arith}
use Rattle.std.proofs.lemmas.Bool.{ltb-true, and_parts}
use Rattle.tokens.specs.Token.{Token, number, quoted, Tokens, none, more, body, InRange, AllInRange, turned}
use Rattle.lexer.specs.Reading.{Piece, opens, closes, digits, word, slashed, wrong, between, pieces, Fault, fine, at, cannot_read, above_limit, word_limit, Found, operator, no_operator, as_operator, words_after, with_word, place_of, as_token, build, refused, tokens, unless, read}
use Rattle.lexer.proofs.Faults.{passed}

abbrev pub RowInRange : (ℕ → Bool) → List Token → Type 0
RowInRange can [] = Unit {0}
RowInRange can (t ∷ ts) = InRange can t × RowInRange can ts

abbrev pub RowsInRange : (ℕ → Bool) → List (List Token) → Type 0
RowsInRange can [] = Unit {0}
RowsInRange can (r ∷ rs) = RowInRange can r × RowsInRange can rs

pub turned_in_range : (can : ℕ → Bool) (xs : List Token) (ts : Tokens) → RowInRange can xs → AllInRange can ts → AllInRange can (turned xs ts)
unfolding turned
turned_in_range can [] ts r s = s
turned_in_range can (x ∷ xs) ts r s = turned_in_range can xs (more x ts) r.1 (r.0, s)

token_in_range : (f : Found) (can : ℕ → Bool) (ws : List (List ℕ)) (w : List ℕ) → word_limit f can ws w ≡ true → InRange can (as_token f ws w)
unfolding as_token word_limit
token_in_range (operator o) can ws w e = e
token_in_range no_operator can ws w e = ltb-true (place_of ws w) 256 e

pub build_in_range : (ps : List Piece) (can : ℕ → Bool) (count deep : ℕ) (ws : List (List ℕ)) (cur : List Token) (outer : List (List Token)) → above_limit ps can count deep ws ≡ fine → RowInRange can cur → RowsInRange can outer → AllInRange can (build ps ws cur outer)
unfolding above_limit build
build_in_range [] can count deep ws cur outer e r s = turned_in_range can cur none r tt
build_in_range (wrong n ∷ ps) can count deep ws cur outer e r s = build_in_range ps can count deep ws cur outer e r s
build_in_range (opens n ∷ ps) can count deep ws cur outer e r s = build_in_range ps can (suc count) (suc deep) ws [] (cur ∷ outer) (passed _ _ n e).1 tt (r, s)
build_in_range (closes n ∷ ps) can count deep ws cur [] e r s = build_in_range ps can (suc count) (deep - 1) ws cur [] (passed _ _ n e).1 r tt
build_in_range (closes n ∷ ps) can count deep ws cur (o ∷ os) e r s =
    build_in_range ps can (suc count) (deep - 1) ws (body (turned cur none) ∷ o) os (passed _ _ n e).1 (turned_in_range can cur none r tt, s.0) s.1
build_in_range (digits n v ∷ ps) can count deep ws cur outer e r s =
    let p = passed _ _ n e in
    build_in_range ps can (suc count) deep ws (number v ∷ cur) outer p.1 (ltb-true v 2147483648 (and_parts _ _ p.0).1, r) s
build_in_range (slashed n w ∷ ps) can count deep ws cur outer e r s =
    let p = passed _ _ n e in
    build_in_range ps can (suc count) deep (with_word ws w) (quoted (place_of ws w) ∷ cur) outer p.1 (ltb-true (place_of ws w) 256 (and_parts _ _ p.0).1, r) s
build_in_range (word n w ∷ ps) can count deep ws cur outer e r s =
    let p = passed _ _ n e in
    build_in_range ps can (suc count) deep (words_after (as_operator w) ws w) (as_token (as_operator w) ws w ∷ cur) outer p.1 (token_in_range (as_operator w) can ws w (and_parts _ _ p.0).1, r) s

-- the tests behind the tokens that a text reads as
pub tests_passed : (f g : Fault) (b : Bool) (ts us : Tokens) → unless f 1 (cond b (unless g 2 (tokens ts)) (refused 2 0)) ≡ tokens us → (f ≡ fine) × (b ≡ true) × (g ≡ fine) × (ts ≡ us)
unfolding unless
tests_passed fine fine true ts us e = (refl, refl, refl, cc)
tests_passed fine fine false ts us e = let z : ◌≡◌ {A = ℕ} 0 1 = cc in absurd (omega arith)
tests_passed fine (at n) true ts us e = let z : ◌≡◌ {A = ℕ} 0 1 = cc in absurd (omega arith)
tests_passed fine (at n) false ts us e = let z : ◌≡◌ {A = ℕ} 0 1 = cc in absurd (omega arith)
tests_passed (at n) g b ts us e = let z : ◌≡◌ {A = ℕ} 0 1 = cc in absurd (omega arith)

pub read_in_range : (can : ℕ → Bool) (bs : List ℕ) (ts : Tokens) → read can bs ≡ tokens ts → AllInRange can ts
read_in_range can bs ts e =
    let ps = pieces bs 0 between in
    let p = tests_passed (cannot_read ps (length bs) 0) (above_limit ps can 0 0 []) (ltb (length bs) 16777216) (build ps [] [] []) ts e in
    subst (AllInRange can) p.3 (build_in_range ps can 0 0 [] [] [] p.2 tt tt)
