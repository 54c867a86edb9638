-- What opening comes to, way by way.
use Rattle.std.proofs.Common.{◌≡◌, ℕ, ◌+◌, ◌*◌, ◌<◌, ◌≤◌, Bool, true, false, cond, ◌&&◌, leb, List, length, take, drop, Ok, Err, Result, sym, refl, ap, ◌∙◌, subst, inl, inr, arith}
use Rattle.std.proofs.lemmas.List.{take_at}
use Rattle.std.proofs.lemmas.Bool.{le-leb, lt-leb, leb-true, and_parts, cases_lt}
use Rattle.tokens.specs.Token.{Tokens}
use Rattle.tokens.specs.Stored.{all_stored}
use Rattle.lexer.specs.Reading.{Read, tokens}
use Rattle.lexer.specs.Reading as reading
use Rattle.text.specs.declared.refusal.Refusal.{Refusal}
use Rattle.text.specs.declared.refusal.Refusal.TheVariants.{TooLittleMemory}
use Rattle.text.specs.Refusing.{refusal_number, refusal_place, Checked}
use Rattle.text.specs.Storing.{StoredAs}
use Rattle.session.specs.Jobs.{good_size}
use Rattle.session.specs.Promise.{Order, turned_away, ready}
use Rattle.session.specs.Regions.{path_room, clip_room, words_asked, opened_by, first_regions, joined}
use Rattle.session.specs.Views.{Admitted}
use Rattle.session.proofs.Below.{stored_length}

pub is_path_room : path_room ≡ 3072
unfolding path_room
is_path_room = refl

pub is_clip_room : clip_room ≡ 3072
unfolding clip_room
is_clip_room = refl

pub rooms : 4 + path_room + clip_room ≡ 6148
unfolding path_room clip_room
rooms = refl

-- what a test that refuses tells by what it answers
pub turned : {E : Type 0} (b : Bool) (e f : E) → ◌≡◌ {A = Result Unit E} (Err f) (cond b (Ok tt) (Err e)) → (b ≡ false) × (f ≡ e)
turned true e f h = let z : ◌≡◌ {A = ℕ} 0 1 = cc in absurd (omega arith)
turned false e f h = (refl, cc)

pub passed : {E : Type 0} (b : Bool) (e : E) (u : Unit) → ◌≡◌ {A = Result Unit E} (Ok u) (cond b (Ok tt) (Err e)) → b ≡ true
passed true e u h = refl
passed false e u h = let z : ◌≡◌ {A = ℕ} 0 1 = cc in absurd (omega arith)

-- a text that is refused
pub refused_text : (o : Order) (d : Read) (why : Refusal) → Checked (Err why) d → opened_by o d ≡ turned_away (refusal_number why) (refusal_place why)
unfolding opened_by
refused_text o (reading.Read.refused k p) why h = sym (ap (λ z. turned_away z (refusal_place why)) h.0 ∙ ap (turned_away k) h.1)
refused_text o (tokens ts) why h = absurd h

-- a text that can be opened, by what is tested of it
pub bad_size : (o : Order) (d : Read) (n : ℕ) → Checked (Ok n) d → good_size o.steps o.wide o.tall ≡ false → opened_by o d ≡ turned_away 2 0
unfolding opened_by
bad_size o (reading.Read.refused k p) n h g = absurd h
bad_size o (tokens ts) n h g = simp g

pub few_words : (o : Order) (d : Read) (n : ℕ) → Checked (Ok n) d → good_size o.steps o.wide o.tall ≡ true → o.words_lent < 2 * n + 6148 + o.kept → opened_by o d ≡ turned_away 3 0
unfolding opened_by
few_words o (reading.Read.refused k p) n h g l = absurd h
few_words o (tokens ts) n h g l = let r = rooms in let t : leb (words_asked o ts) o.words_lent ≡ false = lt-leb _ _ (omega arith) in simp (g, t)

pub few_bytes : (o : Order) (d : Read) (n : ℕ) → Checked (Ok n) d → good_size o.steps o.wide o.tall ≡ true → 2 * n + 6148 + o.kept ≤ o.words_lent → o.bytes_lent < 64 * o.wide → opened_by o d ≡ turned_away 3 1
unfolding opened_by
few_bytes o (reading.Read.refused k p) n h g l m = absurd h
few_bytes o (tokens ts) n h g l m =
    let r = rooms in
    let t : leb (words_asked o ts) o.words_lent ≡ true = le-leb _ _ (omega arith) in
    let u : leb (64 * o.wide) o.bytes_lent ≡ false = lt-leb _ _ m in
    simp (g, t, u)

-- a width in range
narrow : (o : Order) → good_size o.steps o.wide o.tall ≡ true → o.wide ≤ 8192
narrow o g =
    let sides = (and_parts (leb o.steps 1000000000) _ g).1 in
    let width = (and_parts (leb 1 o.wide && leb o.wide 8192) _ sides).0 in
    leb-true o.wide 8192 (and_parts (leb 1 o.wide) _ width).1

pub is_admitted : (o : Order) (d : Read) (n : ℕ) → Checked (Ok n) d → good_size o.steps o.wide o.tall ≡ true → 2 * n + 6148 + o.kept ≤ o.words_lent → 64 * o.wide ≤ o.bytes_lent → Admitted (Ok tt) o d
unfolding opened_by
is_admitted o (reading.Read.refused k p) n h g l m = absurd h
is_admitted o (tokens ts) n h g l m =
    let r = rooms in
    let t : leb (words_asked o ts) o.words_lent ≡ true = le-leb _ _ (omega arith) in
    let u : leb (64 * o.wide) o.bytes_lent ≡ true = le-leb _ _ m in
    (simp (g, t, u), omega arith, m, narrow o g)

-- the last test, of the bytes, decides
pub bytes_tested : (o : Order) (d : Read) (n : ℕ) → Checked (Ok n) d → good_size o.steps o.wide o.tall ≡ true → 2 * n + 6148 + o.kept ≤ o.words_lent →
    (r : Result Unit Refusal) → r ≡ cond (leb (64 * o.wide) o.bytes_lent) (Ok tt) (Err (TooLittleMemory 1)) → Admitted r o d
bytes_tested o d n h g l r e =
    let told = λ (b : Bool) (t : leb (64 * o.wide) o.bytes_lent ≡ b). sym (e ∙ ap (λ z. cond z (Ok tt) (Err (TooLittleMemory 1))) t) in
    elim (cases_lt o.bytes_lent (64 * o.wide)) [
      | inl few ↦ subst (λ z. Admitted z o d) (told false (lt-leb _ _ few)) (few_bytes o d n h g l few)
      | inr m ↦ subst (λ z. Admitted z o d) (told true (le-leb _ _ m)) (is_admitted o d n h g l m)
    ]

-- storing a text that was admitted: the tokens are there
pub stored_well : (o : Order) (d : Read) (n : ℕ) (ws vs : List ℕ) → Admitted (Ok tt) o d → length ws ≡ o.words_lent → StoredAs (Ok n) d ws vs →
    (ts : Tokens) × (d ≡ tokens ts) × (opened_by o d ≡ ready (joined (first_regions o ts))) × (take n vs ≡ all_stored ts) × (n + 6148 + o.kept ≤ length ws) × (64 * o.wide ≤ o.bytes_lent) × (o.wide ≤ 8192)
stored_well o (reading.Read.refused k p) n ws vs a l s = absurd a
stored_well o (tokens ts) n ws vs a l s =
    let m = stored_length ts in
    (ts, refl, a.0, ap (take n) s.1 ∙ take_at (all_stored ts) (drop n ws) n (sym s.0), omega (arith, s.0, a.1), a.2, a.3)

-- and there is no other way
pub stored_surely : (o : Order) (d : Read) (why : Refusal) (ws vs : List ℕ) → Admitted (Ok tt) o d → length ws ≡ o.words_lent → StoredAs (Err why) d ws vs → ⊥
stored_surely o (reading.Read.refused k p) why ws vs a l s = a
stored_surely o (tokens ts) why ws vs a l s = omega (arith, a.1, s.2)
