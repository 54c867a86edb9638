-- A space more where there is one changes where pieces stand and nothing else, and where they stand is not in what is read.
use Rattle.std.proofs.Common.{◌≡◌, ℕ, suc, ◌-◌, ◌<◌, Bool, true, false, cond, ◌&&◌, eqb, ltb, List, [], ◌∷◌, ◌++◌, map, length, sym, refl, ap, ◌∙◌, arith, length-append}
use mathlib.Core.Path.{fun_ext}
use Rattle.std.proofs.lemmas.List.{map-append}
use Rattle.std.proofs.lemmas.Bool.{lt-ltb}
use Rattle.tokens.specs.Token.{Token, number, quoted, body, none, turned}
use Rattle.lexer.specs.Reading.{Piece, opens, closes, digits, word, slashed, wrong, Within, between, a_number, a_word, a_quoted, a_remark, is_space, finished, begun, braces, is_brace, may_begin, goes_on, with_byte, is_between, pieces, Fault, fine, at, cannot_read, as_operator, place_of, with_word, words_after, word_limit, above_limit, as_token, build, Read, refused, tokens, unless}
use Rattle.lexer.specs.Laws.{same_read, SpacesFree}
use Rattle.lexer.proofs.Faults.{not_fine}

-- without the places
unplaced : Piece → Piece
unplaced (opens n) = opens 0
unplaced (closes n) = closes 0
unplaced (digits n v) = digits 0 v
unplaced (word n w) = word 0 w
unplaced (slashed n w) = slashed 0 w
unplaced (wrong n) = wrong 0

bare : Within → Within
bare between = between
bare (a_number n v) = a_number 0 v
bare (a_word n w) = a_word 0 w
bare (a_quoted n w) = a_quoted 0 w
bare a_remark = a_remark

unsited : Fault → Fault
unsited fine = fine
unsited (at n) = at 0

through_cond : {A B : Type 0} (f : A → B) (t : Bool) (x y : A) → f (cond t x y) ≡ cond t (f x) (f y)
through_cond f true x y = refl
through_cond f false x y = refl

-- the pieces of a text without their places: one byte, given what is made of the rest
ended : Within → List Piece
ended w = map unplaced (finished w 0)

one_byte : ℕ → Within → (Within → List Piece) → List Piece
one_byte b w rest =
    cond (goes_on w b) (rest (with_byte w b))
    (cond (is_space b) (ended w ++ rest between)
    (cond (is_brace b) (ended w ++ (braces b 0 ++ rest between))
    (cond (is_between w && may_begin b) (rest (begun b 0)) (ended w ++ (wrong 0 ∷ rest between)))))

bare_pieces : List ℕ → Within → List Piece
bare_pieces [] w = ended w
bare_pieces (b ∷ bs) w = one_byte b w (bare_pieces bs)

bare_ended : (w : Within) (n : ℕ) → map unplaced (finished w n) ≡ ended (bare w)
unfolding ended unplaced finished bare
bare_ended between n = refl
bare_ended (a_number k v) n = refl
bare_ended (a_word k w) n = grind arith
bare_ended (a_quoted k w) n = grind arith
bare_ended a_remark n = refl

bare_goes : (w : Within) (b : ℕ) → goes_on (bare w) b ≡ goes_on w b
unfolding goes_on bare
bare_goes between b = refl
bare_goes (a_number k v) b = refl
bare_goes (a_word k w) b = refl
bare_goes (a_quoted k w) b = refl
bare_goes a_remark b = refl

bare_between : (w : Within) → is_between (bare w) ≡ is_between w
unfolding is_between bare
bare_between between = refl
bare_between (a_number k v) = refl
bare_between (a_word k w) = refl
bare_between (a_quoted k w) = refl
bare_between a_remark = refl

bare_with : (w : Within) (b : ℕ) → bare (with_byte w b) ≡ with_byte (bare w) b
unfolding with_byte bare
bare_with between b = refl
bare_with (a_number k v) b = refl
bare_with (a_word k w) b = refl
bare_with (a_quoted k w) b = refl
bare_with a_remark b = refl

bare_begun : (b n : ℕ) → bare (begun b n) ≡ begun b 0
unfolding begun bare
bare_begun b n = simp (through_cond bare)

places_off : (bs : List ℕ) (n : ℕ) (w : Within) → map unplaced (pieces bs n w) ≡ bare_pieces bs (bare w)
unfolding pieces bare_pieces one_byte unplaced bare
places_off [] n w = bare_ended w n
places_off (b ∷ bs) n w = simp (through_cond (map unplaced), map-append, places_off bs, bare_ended, bare_goes, bare_between, bare_with, bare_begun)

-- in every state a space either goes on with a remark or leaves nothing begun, and so does a second one
second_space : (ys : List ℕ) (w : Within) → bare_pieces (32 ∷ ys) w ≡ bare_pieces (32 ∷ (32 ∷ ys)) w
unfolding bare_pieces one_byte goes_on with_byte ended finished
second_space ys between = refl
second_space ys (a_number n v) = refl
second_space ys (a_word n w) = refl
second_space ys (a_quoted n w) = refl
second_space ys a_remark = refl

spaced : (xs ys : List ℕ) (w : Within) → bare_pieces (xs ++ (32 ∷ ys)) w ≡ bare_pieces (xs ++ (32 ∷ (32 ∷ ys))) w
unfolding bare_pieces
spaced [] ys w = second_space ys w
spaced (x ∷ xs) ys w = ap (one_byte x w) (fun_ext (λ v. spaced xs ys v))

-- what is read does not look at the places
build_off : (ps : List Piece) (ws : List (List ℕ)) (cur : List Token) (outer : List (List Token)) → build (map unplaced ps) ws cur outer ≡ build ps ws cur outer
unfolding build unplaced
build_off [] ws cur outer = refl
build_off (wrong n ∷ ps) ws cur outer = build_off ps ws cur outer
build_off (opens n ∷ ps) ws cur outer = build_off ps ws [] (cur ∷ outer)
build_off (closes n ∷ ps) ws cur [] = build_off ps ws cur []
build_off (closes n ∷ ps) ws cur (o ∷ os) = build_off ps ws (body (turned cur none) ∷ o) os
build_off (digits n v ∷ ps) ws cur outer = build_off ps ws (number v ∷ cur) outer
build_off (slashed n w ∷ ps) ws cur outer = build_off ps (with_word ws w) (quoted (place_of ws w) ∷ cur) outer
build_off (word n w ∷ ps) ws cur outer = build_off ps (words_after (as_operator w) ws w) (as_token (as_operator w) ws w ∷ cur) outer

cannot_off : (ps : List Piece) (len left : ℕ) → unsited (cannot_read ps len left) ≡ cannot_read (map unplaced ps) 0 left
unfolding cannot_read unplaced unsited
cannot_off [] len left = through_cond unsited (eqb left 0) _ _
cannot_off (wrong n ∷ ps) len left = refl
cannot_off (opens n ∷ ps) len left = cannot_off ps len (suc left)
cannot_off (closes n ∷ ps) len left = through_cond unsited (eqb left 0) _ _ ∙ ap (cond (eqb left 0) (at 0)) (cannot_off ps len (left - 1))
cannot_off (digits n v ∷ ps) len left = cannot_off ps len left
cannot_off (word n w ∷ ps) len left = cannot_off ps len left
cannot_off (slashed n w ∷ ps) len left = cannot_off ps len left

-- a fault of a piece, or what comes after
unsited_past : (t : Bool) (n : ℕ) (f g : Fault) → unsited f ≡ g → unsited (cond t f (at n)) ≡ cond t g (at 0)
unfolding unsited
unsited_past true n f g e = e
unsited_past false n f g e = refl

above_off : (ps : List Piece) (can : ℕ → Bool) (count deep : ℕ) (ws : List (List ℕ)) → unsited (above_limit ps can count deep ws) ≡ above_limit (map unplaced ps) can count deep ws
unfolding above_limit unplaced unsited
above_off [] can count deep ws = refl
above_off (wrong n ∷ ps) can count deep ws = above_off ps can count deep ws
above_off (opens n ∷ ps) can count deep ws = unsited_past (ltb count 65536 && ltb deep 32) n _ _ (above_off ps can (suc count) (suc deep) ws)
above_off (closes n ∷ ps) can count deep ws = unsited_past (ltb count 65536) n _ _ (above_off ps can (suc count) (deep - 1) ws)
above_off (digits n v ∷ ps) can count deep ws = unsited_past (ltb count 65536 && ltb v 2147483648) n _ _ (above_off ps can (suc count) deep ws)
above_off (slashed n w ∷ ps) can count deep ws = unsited_past (ltb count 65536 && ltb (place_of ws w) 256) n _ _ (above_off ps can (suc count) deep (with_word ws w))
above_off (word n w ∷ ps) can count deep ws = unsited_past (ltb count 65536 && word_limit (as_operator w) can ws w) n _ _ (above_off ps can (suc count) deep (words_after (as_operator w) ws w))

same_unless : (f g : Fault) (k : ℕ) (r s : Read) → unsited f ≡ unsited g → same_read r s → same_read (unless f k r) (unless g k s)
unfolding unless unsited same_read
same_unless fine fine k r s e h = h
same_unless fine (at m) k r s e h = absurd (not_fine 0 (sym e))
same_unless (at n) fine k r s e h = absurd (not_fine 0 e)
same_unless (at n) (at m) k r s e h = refl

same_pieces : (can : ℕ → Bool) (ps qs : List Piece) (n m : ℕ) → n < 16777216 → m < 16777216 → map unplaced ps ≡ map unplaced qs →
    same_read (unless (cannot_read ps n 0) 1 (cond (ltb n 16777216) (unless (above_limit ps can 0 0 []) 2 (tokens (build ps [] [] []))) (refused 2 0)))
    (unless (cannot_read qs m 0) 1 (cond (ltb m 16777216) (unless (above_limit qs can 0 0 []) 2 (tokens (build qs [] [] []))) (refused 2 0)))
unfolding same_read
same_pieces can ps qs n m h k e =
    let s = lt-ltb n 16777216 h in
    let t = lt-ltb m 16777216 k in
    rw (s, t)
    (same_unless (cannot_read ps n 0) (cannot_read qs m 0) 1 _ _
    (cannot_off ps n 0 ∙ ap (λ z. cannot_read z 0 0) e ∙ sym (cannot_off qs m 0))
    (same_unless (above_limit ps can 0 0 []) (above_limit qs can 0 0 []) 2 _ _
    (above_off ps can 0 0 [] ∙ ap (λ z. above_limit z can 0 0 []) e ∙ sym (above_off qs can 0 0 []))
    (sym (build_off ps [] [] []) ∙ ap (λ z. build z [] [] []) e ∙ build_off qs [] [] [])))

pub spaces_free : SpacesFree
spaces_free can xs ys h =
    let n = length-append xs (32 ∷ ys) in
    let m = length-append xs (32 ∷ (32 ∷ ys)) in
    same_pieces can (pieces (xs ++ (32 ∷ ys)) 0 between) (pieces (xs ++ (32 ∷ (32 ∷ ys))) 0 between) (length (xs ++ (32 ∷ ys))) (length (xs ++ (32 ∷ (32 ∷ ys)))) (omega arith) (omega arith)
    (places_off (xs ++ (32 ∷ ys)) 0 between ∙ spaced xs ys (bare between) ∙ sym (places_off (xs ++ (32 ∷ (32 ∷ ys))) 0 between))
