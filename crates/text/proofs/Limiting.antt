-- One lexeme of the pass over the limits.
use Rattle.std.proofs.Common.{◌≡◌, ℕ, suc, ◌+◌, ◌-◌, ◌<◌, ◌≤◌, Bool, true, false, cond, eqb, ltb, List, [], ◌∷◌, length, Some, None, sym, refl, ap, ◌∙◌, subst, add-one, arith}
use Rattle.std.proofs.lemmas.Bool.{lt-ltb, le-ltb}
use Rattle.lexer.specs.declared.Lexeme.{Lexeme}
use Rattle.lexer.specs.declared.Lexeme.TheVariants.{End, Open, Close, Number, Word, Quoted, Wrong}
use Rattle.lexer.specs.Reading.{Piece, opens, closes, digits, word, slashed, wrong, fine, at, cannot_read, above_limit}
use Rattle.words.specs.Meaning.{Stands, Plain, plain_limit, plain_names}
use Rattle.text.specs.Limits.{place_in}
use Rattle.lexer.specs.Lexing.{from, Saw}
use Rattle.lexer.proofs.Faults.{not_fine, failed}

-- where a piece begins
abbrev pub piece_place : Piece → ℕ
piece_place (opens n) = n
piece_place (closes n) = n
piece_place (digits n v) = n
piece_place (word n w) = n
piece_place (slashed n w) = n
piece_place (wrong n) = n

pub same_place : (x : Lexeme) (q : Piece) (p : ℕ) → Stands x q → place_in x ≡ Some p → piece_place q ≡ p
same_place End q p h e = absurd h
same_place (Open k) q p h e = ap piece_place h ∙ (cc)
same_place (Close k) q p h e = ap piece_place h ∙ (cc)
same_place (Number k v) q p h e = ap piece_place h.2 ∙ (cc)
same_place (Word k w) q p h e = ap piece_place h ∙ (cc)
same_place (Quoted k w) q p h e = ap piece_place h ∙ (cc)
same_place (Wrong k) q p h e = absurd h

-- a lexeme that stands for a piece is not wrong
pub not_wrong : (x : Lexeme) (n : ℕ) → Stands x (wrong n) → ⊥
not_wrong End n h = h
not_wrong (Open k) n h = let z : ◌≡◌ {A = ℕ} 0 1 = cc in omega arith
not_wrong (Close k) n h = let z : ◌≡◌ {A = ℕ} 0 1 = cc in omega arith
not_wrong (Number k v) n h = let e = h.2 in let z : ◌≡◌ {A = ℕ} 0 1 = cc in omega arith
not_wrong (Word k w) n h = let z : ◌≡◌ {A = ℕ} 0 1 = cc in omega arith
not_wrong (Quoted k w) n h = let z : ◌≡◌ {A = ℕ} 0 1 = cc in omega arith
not_wrong (Wrong k) n h = h

-- no room for one more token
pub too_many : (can : ℕ → Bool) (q : Piece) (ps : List Piece) (t d : ℕ) (ws : List (List ℕ)) → ((n : ℕ) → q ≡ wrong n → ⊥) → 65536 ≤ t → above_limit (q ∷ ps) can t d ws ≡ at (piece_place q)
unfolding above_limit
too_many can (opens n) ps t d ws h l = let f : ltb t 65536 ≡ false = le-ltb _ _ l in simp f
too_many can (closes n) ps t d ws h l = let f : ltb t 65536 ≡ false = le-ltb _ _ l in simp f
too_many can (digits n v) ps t d ws h l = let f : ltb t 65536 ≡ false = le-ltb _ _ l in simp f
too_many can (word n w) ps t d ws h l = let f : ltb t 65536 ≡ false = le-ltb _ _ l in simp f
too_many can (slashed n w) ps t d ws h l = let f : ltb t 65536 ≡ false = le-ltb _ _ l in simp f
too_many can (wrong n) ps t d ws h l = absurd (h n refl)

pub too_deep : (can : ℕ → Bool) (n : ℕ) (ps : List Piece) (t d : ℕ) (ws : List (List ℕ)) → t < 65536 → 32 ≤ d → above_limit (opens n ∷ ps) can t d ws ≡ at n
unfolding above_limit
too_deep can n ps t d ws l m =
    let f : ltb t 65536 ≡ true = lt-ltb _ _ l in
    let g : ltb d 32 ≡ false = le-ltb _ _ m in
    simp (f, g)

pub opened : (can : ℕ → Bool) (n : ℕ) (ps : List Piece) (t d : ℕ) (ws : List (List ℕ)) → t < 65536 → d < 32 → above_limit (opens n ∷ ps) can t d ws ≡ above_limit ps can (t + 1) (d + 1) ws
unfolding above_limit
opened can n ps t d ws l m =
    let f : ltb t 65536 ≡ true = lt-ltb _ _ l in
    let g : ltb d 32 ≡ true = lt-ltb _ _ m in
    simp (f, g, add-one)

pub closed : (can : ℕ → Bool) (n : ℕ) (ps : List Piece) (t d : ℕ) (ws : List (List ℕ)) → t < 65536 → above_limit (closes n ∷ ps) can t d ws ≡ above_limit ps can (t + 1) (d - 1) ws
unfolding above_limit
closed can n ps t d ws l =
    let f : ltb t 65536 ≡ true = lt-ltb _ _ l in
    simp (f, add-one)

-- a number or a word
pub plain_step : (can : ℕ → Bool) (q : Piece) (ps : List Piece) (t d : ℕ) (ws : List (List ℕ)) → Plain q → t < 65536 → above_limit (q ∷ ps) can t d ws ≡ cond (plain_limit can q ws) (above_limit ps can (t + 1) d (plain_names q ws)) (at (piece_place q))
unfolding above_limit
plain_step can (opens n) ps t d ws h l = absurd h
plain_step can (closes n) ps t d ws h l = absurd h
plain_step can (digits n v) ps t d ws h l = let f : ltb t 65536 ≡ true = lt-ltb _ _ l in simp (f, add-one)
plain_step can (word n w) ps t d ws h l = let f : ltb t 65536 ≡ true = lt-ltb _ _ l in simp (f, add-one)
plain_step can (slashed n w) ps t d ws h l = let f : ltb t 65536 ≡ true = lt-ltb _ _ l in simp (f, add-one)
plain_step can (wrong n) ps t d ws h l = absurd h

-- a lexeme that is no brace stands for a number or a word
pub plain_of : (x : Lexeme) (q : Piece) → Stands x q → ((p : ℕ) → x ≡ Open p → ⊥) → ((p : ℕ) → x ≡ Close p → ⊥) → Plain q
plain_of End q h o k = absurd h
plain_of (Open p) q h o k = absurd (o p refl)
plain_of (Close p) q h o k = absurd (k p refl)
plain_of (Number p v) q h o k = subst Plain (sym h.2) tt
plain_of (Word p w) q h o k = subst Plain (sym h) tt
plain_of (Quoted p w) q h o k = subst Plain (sym h) tt
plain_of (Wrong p) q h o k = absurd h

-- a lexeme of a text that can be read stands for the next piece, and the rest can be read
pub record Next (s : List ℕ) (i j len : ℕ) (x : Lexeme) : Type 0 where
  pub piece : Piece
  pub stands : Stands x piece
  pub on : i < j
  pub within : j ≤ length s
  pub is : from s i ≡ piece ∷ from s j
  pub left : ℕ
  pub readable : cannot_read (from s j) len left ≡ fine

pub next_piece : (s : List ℕ) (i j len left p : ℕ) (x : Lexeme) → Saw s i x j → place_in x ≡ Some p → cannot_read (from s i) len left ≡ fine → Next s i j len x
unfolding cannot_read
next_piece s i j len left p End h e f = let z : ◌≡◌ {A = ℕ} 0 1 = cc in absurd (omega arith)
next_piece s i j len left p (Open k) h e f = record { piece = opens k; stands = refl; on = h.0; within = h.1; is = h.2; left = suc left; readable = sym (ap (λ z. cannot_read z len left) h.2) ∙ f }
next_piece s i j len left p (Close k) h e f =
    let g : cond (eqb left 0) (at k) (cannot_read (from s j) len (left - 1)) ≡ fine = sym (ap (λ z. cannot_read z len left) h.2) ∙ f in
    record { piece = closes k; stands = refl; on = h.0; within = h.1; is = h.2; left = left - 1; readable = (failed (eqb left 0) (cannot_read (from s j) len (left - 1)) k g).1 }
next_piece s i j len left p (Number k v) h e f = record { piece = digits k h.2.0; stands = (h.2.0, h.2.1, refl); on = h.0; within = h.1; is = h.2.2; left = left; readable = sym (ap (λ z. cannot_read z len left) h.2.2) ∙ f }
next_piece s i j len left p (Word k w) h e f = record { piece = word k w.now; stands = refl; on = h.0; within = h.1; is = h.2; left = left; readable = sym (ap (λ z. cannot_read z len left) h.2) ∙ f }
next_piece s i j len left p (Quoted k w) h e f = record { piece = slashed k w.now; stands = refl; on = h.0; within = h.1; is = h.2; left = left; readable = sym (ap (λ z. cannot_read z len left) h.2) ∙ f }
next_piece s i j len left p (Wrong k) h e f = absurd (not_fine k (sym (h.1 len left) ∙ f))

pub at_the_end : (s : List ℕ) (i j : ℕ) (x : Lexeme) → Saw s i x j → place_in x ≡ None → from s i ≡ []
at_the_end s i j End h e = h.1
at_the_end s i j (Open k) h e = let z : ◌≡◌ {A = ℕ} 0 1 = cc in absurd (omega arith)
at_the_end s i j (Close k) h e = let z : ◌≡◌ {A = ℕ} 0 1 = cc in absurd (omega arith)
at_the_end s i j (Number k v) h e = let z : ◌≡◌ {A = ℕ} 0 1 = cc in absurd (omega arith)
at_the_end s i j (Word k w) h e = let z : ◌≡◌ {A = ℕ} 0 1 = cc in absurd (omega arith)
at_the_end s i j (Quoted k w) h e = let z : ◌≡◌ {A = ℕ} 0 1 = cc in absurd (omega arith)
at_the_end s i j (Wrong k) h e = let z : ◌≡◌ {A = ℕ} 0 1 = cc in absurd (omega arith)

-- only the end of the text has no place
pub placed : (x : Lexeme) → (x ≡ End → ⊥) → (p : ℕ) × (place_in x ≡ Some p)
placed End h = absurd (h refl)
placed (Open k) h = (k, refl)
placed (Close k) h = (k, refl)
placed (Number k v) h = (k, refl)
placed (Word k w) h = (k, refl)
placed (Quoted k w) h = (k, refl)
placed (Wrong k) h = (k, refl)
