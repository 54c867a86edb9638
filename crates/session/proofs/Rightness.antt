-- The printer is right: what holds of the memory from opening on, that it gives the written machine's answers, and that asking keeps it.
use Rattle.std.proofs.Common.{◌≡◌, ℕ, ◌+◌, ◌*◌, ◌<◌, ◌≤◌, min, true, false, cond, ◌&&◌, ltb, leb, List, [], ◌∷◌, ◌++◌, length, get_or, drop, replicate, sym, refl, ap, ◌∙◌, subst, inl, inr, mul-le-mul_right, arith, length-append, length-drop}
use lib.ListN.{length-replicate}
use Rattle.std.proofs.lemmas.Bool.{lt-ltb, le-leb, ltb-true, leb-true, cases_Bool, leb-false, lt-leb, cond_both, and_parts, and_from, and_left, and_right}
use Rattle.tokens.specs.Token.{Tokens, size, AllInRange}
use Rattle.tokens.specs.Stored.{decode, all_stored}
use Rattle.tokens.specs.Stage.{whole}
use Rattle.tokens.proofs.Decoding.{stored_reads_back}
use Rattle.lexer.specs.Reading.{Read, tokens, read}
use Rattle.lexer.specs.Reading as reading
use Rattle.lexer.proofs.Ranges.{read_in_range}
use Rattle.path.specs.Path.{Paint}
use Rattle.raster.specs.Coverage.{rows}
use Rattle.raster.proofs.BandLaws.{length-rows}
use Rattle.machine.specs.Machine.{run, begin}
use Rattle.machine.specs.Laws.{state_of, end_of}
use Rattle.session.specs.Jobs.{good_size, shown, ending, Asked, how_it_ends, band, Answer, dots, refused, answer, answers}
use Rattle.session.specs.Promise.{Memory, ready, Order, told_by, left_by, job_of, lent_enough, all_below, GoodOpening, carried, Right}
use Rattle.session.specs.Regions.{Regions, joined, path_room, clip_room, Shaped, width_in, height_in, run_of, pages_at, ending_at, answer_in, says_in, put_answer, next_in, first_regions, words_asked, opened_by, the_printer}
use Rattle.session.proofs.Below.{below_append, below_drop, below_replicate, stored_length, stored_below}
use Rattle.session.proofs.Cutting.{cut_joined}
use Rattle.session.proofs.Greys.{page_rows_below}
use Rattle.session.proofs.Opening.{rooms}

abbrev word : ℕ
word = 18446744073709551616

-- what holds between questions; nothing of the tokens but the pages and the ending that a run of them comes to
record Holds (o : Order) (ts : Tokens) (g : Regions) : Type 0 where
  header : g.header ≡ o.steps ∷ (o.wide ∷ (o.tall ∷ (o.kept ∷ [])))
  path : g.path ≡ replicate path_room 0
  clips : g.clips ≡ replicate clip_room 0
  kept : g.kept ≡ replicate o.kept 0
  bytes : length g.bytes ≡ 64 * o.wide
  below : all_below 256 g.bytes ≡ true
  shows : pages_at g.text g.header ≡ shown (job_of o ts)
  stops : ending_at g.text g.header ≡ ending (job_of o ts)

-- an order whose steps, width and height are in range
record Sized (o : Order) : Type 0 where
  steps : o.steps ≤ 1000000000
  wide : o.wide ≤ 8192
  tall : o.tall ≤ 65535

sized : (o : Order) → good_size o.steps o.wide o.tall ≡ true → Sized o
sized o e =
    let a = and_parts _ _ e in
    let b = and_parts _ _ a.1 in
    record { steps = leb-true _ _ a.0; wide = leb-true _ _ (and_parts _ _ b.0).1; tall = leb-true _ _ (and_parts _ _ b.1).1 }

shape : (o : Order) (ts : Tokens) (g : Regions) → Holds o ts g → Shaped g
shape o ts g h = (ap length h.header, ap length h.path ∙ length-replicate path_room 0, ap length h.clips ∙ length-replicate clip_room 0)

-- the answers: 64 rows have room, so that only the page's height and 64 rows are left to test
enough_room : (ps : List (List Paint)) (e w t p y n : ℕ) →
    answer_in (64 * w) ps e w t (band p y n) ≡ cond (ltb p (length ps)) (cond (leb (y + n) t && leb n 64) (dots (rows (get_or ps p []) w y n)) (refused 5)) (refused 4)
unfolding answer_in
enough_room ps e w t p y n =
    let five = refused 5 in
    let good = dots (rows (get_or ps p []) w y n) in
    let same : ((leb (y + n) t && leb n 64) && leb (n * w) (64 * w)) ≡ (leb (y + n) t && leb n 64) =
    elim (cases_Bool (leb (y + n) t && leb n 64)) [
      | inl f ↦
          let l : n ≤ 64 = leb-true n 64 (and_parts _ _ f).1 in
          and_from _ _ f (le-leb _ _ (mul-le-mul_right {m = n} {n = 64} w l)) ∙ sym f
      | inr f ↦ and_left _ _ f ∙ sym f
    ] in
    ap (λ z. cond (ltb p (length ps)) (cond z good five) (refused 4)) same

whole_answer : (o : Order) (ts : Tokens) (q : Asked) → answer_in (64 * o.wide) (shown (job_of o ts)) (ending (job_of o ts)) o.wide o.tall q ≡ answer (job_of o ts) q
unfolding answer_in answer
whole_answer o ts how_it_ends = refl
whole_answer o ts (band p y n) = enough_room (shown (job_of o ts)) (ending (job_of o ts)) o.wide o.tall p y n

same_view : (q : Asked) (a b : ℕ) (ps qs : List (List Paint)) (e f w v t u : ℕ) → a ≡ b → ps ≡ qs → e ≡ f → w ≡ v → t ≡ u → answer_in a ps e w t q ≡ answer_in b qs f v u q
same_view q a b ps qs e f w v t u h i j k l =
    ap (λ z. answer_in z ps e w t q) h ∙ ap (λ z. answer_in b z e w t q) i ∙ ap (λ z. answer_in b qs z w t q) j ∙ ap (λ z. answer_in b qs f z t q) k ∙ ap (λ z. answer_in b qs f v z q) l

roomy : (o : Order) (ts : Tokens) (g : Regions) → Holds o ts g → (leb path_room (length g.path) && leb clip_room (length g.clips)) ≡ true
roomy o ts g h =
    let s = shape o ts g h in
    and_from _ _ (le-leb path_room (length g.path) (omega (arith, s.1))) (le-leb clip_room (length g.clips) (omega (arith, s.2)))

is_width : (o : Order) (ts : Tokens) (g : Regions) → Sized o → Holds o ts g → width_in g.header ≡ o.wide
is_width o ts g s h = ap width_in h.header ∙ omega (arith, s.wide)

is_height : (o : Order) (ts : Tokens) (g : Regions) → Sized o → Holds o ts g → height_in g.header ≡ o.tall
is_height o ts g s h = ap height_in h.header ∙ omega (arith, s.tall)

says_right : (o : Order) (ts : Tokens) (g : Regions) → Sized o → Holds o ts g → (q : Asked) → says_in g q ≡ answer (job_of o ts) q
says_right o ts g s h q =
    let a = answer_in (length g.bytes) (pages_at g.text g.header) (ending_at g.text g.header) (width_in g.header) (height_in g.header) q in
    ap (λ z. cond z a (refused 5)) (roomy o ts g h) ∙ same_view q _ _ _ _ _ _ _ _ _ _ h.bytes h.shows h.stops (is_width o ts g s h) (is_height o ts g s h) ∙ whole_answer o ts q

-- what an answer of the written machine leaves in the bytes
answer_cases : (P : Answer → Type 0) (o : Order) (ts : Tokens) (p y n : ℕ) → P (refused 4) → P (refused 5) → (n ≤ 64 → P (dots (rows (get_or (shown (job_of o ts)) p []) o.wide y n))) → P (answer (job_of o ts) (band p y n))
unfolding answer
answer_cases P o ts p y n four five good =
    let d = dots (rows (get_or (shown (job_of o ts)) p []) o.wide y n) in
    let fits = leb (y + n) o.tall && leb n 64 in
    cond_both (ltb p (length (shown (job_of o ts)))) (cond fits d (refused 5)) (refused 4) P
    (λ _. cond_both fits d (refused 5) P (λ f. good (leb-true n 64 (and_parts _ _ f).1)) (λ _. five))
    (λ _. four)

put_length : (o : Order) (ts : Tokens) (q : Asked) (bs : List ℕ) → length bs ≡ 64 * o.wide → length (put_answer (answer (job_of o ts) q) bs) ≡ length bs
unfolding answer put_answer
put_length o ts how_it_ends bs e = refl
put_length o ts (band p y n) bs e =
    let r = rows (get_or (shown (job_of o ts)) p []) o.wide y n in
    answer_cases (λ z. length (put_answer z bs) ≡ length bs) o ts p y n (length-replicate (length bs) 0) (length-replicate (length bs) 0)
    (λ few. omega (arith, length-append r (drop (length r) bs), length-drop (length r) bs, length-rows (get_or (shown (job_of o ts)) p []) o.wide y n, mul-le-mul_right {m = n} {n = 64} o.wide few))

put_below : (o : Order) (ts : Tokens) (q : Asked) (bs : List ℕ) → all_below 256 bs ≡ true → all_below 256 (put_answer (answer (job_of o ts) q) bs) ≡ true
unfolding answer put_answer
put_below o ts how_it_ends bs h = h
put_below o ts (band p y n) bs h =
    let r = rows (get_or (shown (job_of o ts)) p []) o.wide y n in
    let none = below_replicate 256 (length bs) 0 (omega arith) in
    answer_cases (λ z. all_below 256 (put_answer z bs) ≡ true) o ts p y n none none (λ _. below_append 256 r (drop (length r) bs) (page_rows_below o.steps ts p o.wide y n) (below_drop 256 (length r) bs h))

next_holds : (o : Order) (ts : Tokens) (g : Regions) (q : Asked) → Sized o → Holds o ts g → Holds o ts (next_in g q)
next_holds o ts g q s h =
    let said = says_right o ts g s h q in
    let z = shape o ts g h in
    record {
      header = h.header;
      path = ap (λ n. replicate n 0) z.1;
      clips = ap (λ n. replicate n 0) z.2;
      kept = h.kept;
      bytes = ap (λ a. length (put_answer a g.bytes)) said ∙ put_length o ts q g.bytes h.bytes ∙ h.bytes;
      below = ap (λ a. all_below 256 (put_answer a g.bytes)) said ∙ put_below o ts q g.bytes h.below;
      shows = h.shows;
      stops = h.stops;
    }

told : (o : Order) (ts : Tokens) (g : Regions) → Sized o → Holds o ts g → (qs : List Asked) → told_by the_printer (joined g) qs ≡ answers (job_of o ts) qs
unfolding told_by answers
told o ts g s h [] = refl
told o ts g s h (q ∷ qs) =
    ap (λ z. says_in z q ∷ told_by the_printer (joined (next_in z q)) qs) (cut_joined g (shape o ts g h))
    ∙ ap (λ z. z ∷ told_by the_printer (joined (next_in g q)) qs) (says_right o ts g s h q)
    ∙ ap (λ z. answer (job_of o ts) q ∷ z) (told o ts (next_in g q) s (next_holds o ts g q s h) qs)

left : (o : Order) (ts : Tokens) (g : Regions) → Sized o → Holds o ts g → (qs : List Asked) → (r : Regions) × (left_by the_printer (joined g) qs ≡ joined r) × (r.text ≡ g.text) × Holds o ts r
unfolding left_by
left o ts g s h [] = (g, refl, refl, h)
left o ts g s h (q ∷ qs) =
    let r = left o ts (next_in g q) s (next_holds o ts g q s h) qs in
    (r.0, ap (λ z. left_by the_printer (joined (next_in z q)) qs) (cut_joined g (shape o ts g h)) ∙ r.1, r.2, r.3)

-- opening
record Small (o : Order) : Type 0 where
  steps : o.steps < 18446744073709551616
  wide : o.wide < 18446744073709551616
  tall : o.tall < 18446744073709551616
  kept : o.kept < 18446744073709551616
  lent : o.words_lent < 18446744073709551616

small : (o : Order) → carried o ≡ true → Small o
unfolding all_below
small o e =
    let a = and_parts _ _ (and_parts _ _ e).1 in
    let b = and_parts _ _ a.1 in
    let c = and_parts _ _ b.1 in
    let d = and_parts _ _ c.1 in
    let f = and_parts _ _ d.1 in
    record { steps = ltb-true _ _ a.0; wide = ltb-true _ _ b.0; tall = ltb-true _ _ c.0; kept = ltb-true _ _ d.0; lent = ltb-true _ _ f.0 }

-- what was stored is run as the text's tokens are by the whole machine
pub runs_whole : (ts : Tokens) (n : ℕ) → AllInRange whole ts → run n (begin (decode (all_stored ts))) ≡ run n (begin ts)
runs_whole ts n fit = ap (λ z. run n (begin z)) (stored_reads_back whole ts fit)

stored_run : (o : Order) (ts : Tokens) → Sized o → AllInRange whole ts → run_of (all_stored ts) (o.steps ∷ (o.wide ∷ (o.tall ∷ (o.kept ∷ [])))) ≡ run o.steps (begin ts)
unfolding run_of
stored_run o ts s fit =
    let n : min o.steps 1000000000 ≡ o.steps = omega (arith, s.steps) in
    ap (λ z. run z (begin (decode (all_stored ts)))) n ∙ runs_whole ts o.steps fit

first_holds : (o : Order) (ts : Tokens) → Sized o → AllInRange whole ts → Holds o ts (first_regions o ts)
first_holds o ts s fit =
    record {
      header = refl;
      path = refl;
      clips = refl;
      kept = refl;
      bytes = length-replicate (64 * o.wide) 0;
      below = below_replicate 256 (64 * o.wide) 0 (omega arith);
      shows = ap (λ w. (state_of w).pages) (stored_run o ts s fit);
      stops = ap end_of (stored_run o ts s fit);
    }

-- what is owed of the memory that is left
abbrev Fine : Order → Memory → Type 0
Fine o m =
    (length m.text + length m.words ≤ o.words_lent) × (length m.bytes ≤ o.bytes_lent) × (length m.words ≤ o.kept + 8192)
    × (all_below 18446744073709551616 m.text ≡ true) × (all_below 18446744073709551616 m.words ≡ true) × (all_below 256 m.bytes ≡ true)

header_below : (o : Order) → Small o → all_below word (o.steps ∷ (o.wide ∷ (o.tall ∷ (o.kept ∷ [])))) ≡ true
unfolding all_below
header_below o h = and_from _ _ (lt-ltb _ _ h.steps) (and_from _ _ (lt-ltb _ _ h.wide) (and_from _ _ (lt-ltb _ _ h.tall) (and_from _ _ (lt-ltb _ _ h.kept) refl)))

fine_joined : (o : Order) (ts : Tokens) (g : Regions) → Small o → Holds o ts g → g.text ≡ all_stored ts → AllInRange whole ts → words_asked o ts ≤ o.words_lent → 64 * o.wide ≤ o.bytes_lent → Fine o (joined g)
fine_joined o ts g n h e fit k l =
    let s = shape o ts g h in
    let a = length-append g.header (g.path ++ (g.clips ++ g.kept)) in
    let b = length-append g.path (g.clips ++ g.kept) in
    let c = length-append g.clips g.kept in
    let d = ap length h.kept ∙ length-replicate o.kept 0 in
    let t = ap length e in
    let m = stored_length ts in
    let r = rooms in
    let zero_words : (x : ℕ) → all_below word (replicate x 0) ≡ true = λ x. below_replicate word x 0 (omega arith) in (
      omega (arith, s.0, s.1, s.2),
      omega (arith, h.bytes),
      omega (arith, s.0, s.1, s.2),
      ap (all_below word) e ∙ stored_below whole ts fit (omega (arith, n.lent)),
      below_append word g.header _ (ap (all_below word) h.header ∙ header_below o n)
          (below_append word g.path _ (ap (all_below word) h.path ∙ zero_words path_room)
          (below_append word g.clips _ (ap (all_below word) h.clips ∙ zero_words clip_room) (ap (all_below word) h.kept ∙ zero_words o.kept))),
      h.below,
    )

opened_well : (o : Order) (ts : Tokens) → Small o → AllInRange whole ts → good_size o.steps o.wide o.tall ≡ true → words_asked o ts ≤ o.words_lent → 64 * o.wide ≤ o.bytes_lent →
    GoodOpening whole the_printer o (tokens ts) (ready (joined (first_regions o ts)))
unfolding GoodOpening
opened_well o ts n fit e k l =
    let s = sized o e in
    let h = first_holds o ts s fit in (
      e,
      λ qs.
          let r = left o ts (first_regions o ts) s h qs in
          let f = subst (Fine o) (sym r.1) (fine_joined o ts r.0 n r.3 r.2 fit k l) in
          (told o ts (first_regions o ts) s h qs, f.0, f.1, f.2, f.3, f.4, f.5),
    )

-- what is asked for is no more than may be
too_few_words : (o : Order) (ts : Tokens) → leb (words_asked o ts) o.words_lent ≡ false → lent_enough o ts ≡ false
too_few_words o ts e = let r = rooms in let k = leb-false _ _ e in and_left _ _ (lt-leb (8 * size ts + o.kept + 8192) o.words_lent (omega arith))

too_few_bytes : (o : Order) (ts : Tokens) → leb (64 * o.wide) o.bytes_lent ≡ false → lent_enough o ts ≡ false
too_few_bytes o ts e = let k = leb-false _ _ e in and_right _ _ (lt-leb (64 * o.wide + 4096) o.bytes_lent (omega arith))

good_at : (o : Order) (r : Read) → Small o → ((ts : Tokens) → r ≡ tokens ts → AllInRange whole ts) → GoodOpening whole the_printer o r (opened_by o r)
unfolding GoodOpening opened_by
good_at o (reading.Read.refused k p) n fit = (refl, refl)
good_at o (tokens ts) n fit =
    let Good = GoodOpening whole the_printer o (tokens ts) in
    cond_both (good_size o.steps o.wide o.tall) _ _ Good
    (λ g. cond_both (leb (words_asked o ts) o.words_lent) _ _ Good
    (λ k. cond_both (leb (64 * o.wide) o.bytes_lent) _ _ Good (λ l. opened_well o ts n (fit ts refl) g (leb-true _ _ k) (leb-true _ _ l)) (λ l. inr (refl, omega arith, too_few_bytes o ts l, g)))
    (λ k. inr (refl, omega arith, too_few_words o ts k, g)))
    (λ g. inl (refl, refl, g))

pub right : Right whole the_printer
unfolding Right
right o e = good_at o (read whole o.bytes) (small o e) (λ ts f. read_in_range whole o.bytes ts f)
