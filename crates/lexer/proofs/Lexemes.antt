-- Whole lexemes: from where one begins to where it ends.
use Rattle.std.proofs.Common.{◌≡◌, ℕ, zero, suc, ◌+◌, ◌-◌, ◌*◌, ◌<◌, ◌≤◌, Bool, true, false, cond, eqb, leb, List, [], ◌∷◌, ◌++◌, length, get_or, take, drop, sym, refl, ap, ◌∙◌, subst, inl, inr, add-zero, add-one, arith, length-drop, length-take, drop-cons}
use Rattle.std.specs.List.{prefix_len}
use Rattle.std.proofs.lemmas.List.{append-nil, append_assoc, get_or-drop}
use Rattle.std.proofs.lemmas.List.Sums.{prefix_len-le-length, prefix_len_passes, prefix_len_stops}
use Rattle.std.proofs.lemmas.Bool.{cases_Bool}
use Rattle.std.proofs.lemmas.Bool.Decides.{nat_tests, eqb_tells}
use Rattle.lexer.specs.Reading.{Piece, slashed, wrong, Within, between, a_number, a_word, a_quoted, is_space, is_digit, is_letter, is_brace, may_begin, braces, begun, finished, goes_on, with_byte, is_between, pieces, cannot_read, at}
use Rattle.lexer.specs.Lexing.{from, ends_at, Run}
use Rattle.lexer.proofs.Scanning.{goes, begins, past_brace, past_wrong, number_goes, ended, broken}

-- a scan that stops where a test fails has passed a byte where it holds
pub passed : (s : List ℕ) (f : ℕ → Bool) (p r : ℕ) → p ≤ r → p < length s → f (get_or s p 0) ≡ true → (r < length s → f (get_or s r 0) ≡ false) → p < r
passed s f p r l h t n =
    elim (eqb_tells p r) [
      | inl e ↦
          let u : f (get_or s r 0) ≡ true = subst (λ z. f (get_or s z 0) ≡ true) e.1 t in
          let v : f (get_or s r 0) ≡ false = n (omega arith) in
          let z : ◌≡◌ {A = Bool} true false = sym u ∙ v in
          let q : ◌≡◌ {A = ℕ} 0 1 = cc in
          omega arith
      | inr e ↦ omega (arith, e.1)
    ]

pub number_begins : (s : List ℕ) (i : ℕ) → i < length s → is_digit (get_or s i 0) ≡ true → from s i ≡ pieces (drop i s) i (a_number i 0)
unfolding begun
number_begins s i h d =
    let b = get_or s i 0 in
    let k : is_space b ≡ false = grind (arith, nat_tests) in
    let r : is_brace b ≡ false = grind (arith, nat_tests) in
    let m : may_begin b ≡ true = grind (arith, nat_tests) in
    let e : 10 * 0 + (b - 48) ≡ b - 48 = omega arith in
    begins s i h k r m ∙ simp d (ap (λ z. pieces (drop (i + 1) s) (i + 1) (a_number i z)) (sym e) ∙ sym (number_goes s i i 0 h d))

-- a run of letters, in a word or a quoted word
module _ (s : List ℕ) (k : List ℕ → Within) (go : (w : List ℕ) (b : ℕ) → goes_on (k w) b ≡ is_letter b) (put : (w : List ℕ) (b : ℕ) → with_byte (k w) b ≡ k (w ++ (b ∷ []))) where
  letters_go : (n i : ℕ) (w : List ℕ) → ((j : ℕ) → i ≤ j → j < i + n → (j < length s) × (is_letter (get_or s j 0) ≡ true)) → pieces (drop i s) i (k w) ≡ pieces (drop (i + n) s) (i + n) (k (w ++ take n (drop i s)))
  letters_go zero i w h = rw (add-zero, append-nil)
  letters_go (suc n) i w h =
      let here = h i (omega arith) (omega arith) in
      let b = get_or s i 0 in
      let one = goes s i (k w) here.0 (go w b ∙ here.1) in
      let rest = letters_go n (i + 1) (w ++ (b ∷ [])) (λ j l m. h j (omega arith) (omega arith)) in
      let same : (i + 1) + n ≡ i + suc n = omega arith in
      let inside : i < length s = here.0 in
      let cut : drop i s ≡ b ∷ drop (i + 1) s = rw (add-one, drop-cons s i 0) in
      let word_is : (w ++ (b ∷ [])) ++ take n (drop (i + 1) s) ≡ w ++ take (suc n) (drop i s) = append_assoc w (b ∷ []) (take n (drop (i + 1) s)) ∙ ap (λ z. w ++ take (suc n) z) (sym cut) in
      one ∙ ap (pieces (drop (i + 1) s) (i + 1)) (put w b) ∙ rest ∙ ap (λ z. pieces (drop z s) z (k ((w ++ (b ∷ [])) ++ take n (drop (i + 1) s)))) same ∙ ap (λ z. pieces (drop (i + suc n) s) (i + suc n) (k z)) word_is

  pub letters_to : (i r : ℕ) → i ≤ r → ((j : ℕ) → i ≤ j → j < r → (j < length s) × (is_letter (get_or s j 0) ≡ true)) → pieces (drop i s) i (k []) ≡ pieces (drop r s) r (k (take (r - i) (drop i s)))
  letters_to i r l h =
      let e : i + (r - i) ≡ r = omega arith in
      letters_go (r - i) i [] (λ j a b. h j a (omega arith)) ∙ ap (λ z. pieces (drop z s) z (k (take (r - i) (drop i s)))) e

-- the letters at the front of what is left are a run
pub run_of : (s : List ℕ) (i : ℕ) → i ≤ length s → Run s i (i + prefix_len is_letter (drop i s))
run_of s i h =
    let d = drop i s in
    let n = prefix_len is_letter d in
    let fits = prefix_len-le-length is_letter d in
    let len = length-drop i s in
    record {
      bound = omega arith;
      within = omega (arith, fits, len);
      places = λ k l m.
          let j : k - i < n = omega arith in
          let e : i + (k - i) ≡ k = omega arith in
          (omega (arith, fits, len), ap is_letter (sym (ap (λ z. get_or s z 0) e) ∙ sym (get_or-drop i s (k - i) 0)) ∙ prefix_len_passes is_letter d (k - i) 0 j);
      stops = λ l. ap is_letter (sym (get_or-drop i s n 0)) ∙ prefix_len_stops is_letter d 0 (omega (arith, fits, len));
    }

-- the letters of a run within the text are as many as it is long
pub run_length : (s : List ℕ) (i r : ℕ) → i ≤ r → r ≤ length s → length (take (r - i) (drop i s)) ≡ r - i
run_length s i r l h = simp (length-take, length-drop) (omega arith)

pub word_run : (s : List ℕ) (p r : ℕ) → p < length s → is_letter (get_or s p 0) ≡ true → p ≤ r → ((j : ℕ) → p ≤ j → j < r → (j < length s) × (is_letter (get_or s j 0) ≡ true)) → from s p ≡ pieces (drop r s) r (a_word p (take (r - p) (drop p s)))
unfolding begun goes_on with_byte
word_run s p r h t l places =
    let b = get_or s p 0 in
    let k : is_space b ≡ false = grind (arith, nat_tests) in
    let q : is_brace b ≡ false = grind (arith, nat_tests) in
    let m : may_begin b ≡ true = grind (arith, nat_tests) in
    let d : is_digit b ≡ false = grind (arith, nat_tests) in
    begins s p h k q m ∙ simp (d, t) (sym (goes s p (a_word p []) h t) ∙ letters_to s (a_word p) (λ w x. refl) (λ w x. refl) p r l places)

pub quoted_run : (s : List ℕ) (p r : ℕ) → p < length s → get_or s p 0 ≡ 47 → p + 1 ≤ r → ((j : ℕ) → p + 1 ≤ j → j < r → (j < length s) × (is_letter (get_or s j 0) ≡ true)) → from s p ≡ pieces (drop r s) r (a_quoted p (take (r - (p + 1)) (drop (p + 1) s)))
unfolding begun goes_on with_byte
quoted_run s p r h t l places =
    let b = get_or s p 0 in
    let k : is_space b ≡ false = grind (arith, nat_tests) in
    let q : is_brace b ≡ false = grind (arith, nat_tests) in
    let m : may_begin b ≡ true = grind (arith, nat_tests) in
    let d : is_digit b ≡ false = grind (arith, nat_tests) in
    let n : is_letter b ≡ false = grind (arith, nat_tests) in
    let e : eqb b 47 ≡ true = grind (arith, nat_tests) in
    begins s p h k q m ∙ simp (d, n, e) (letters_to s (a_quoted p) (λ w x. refl) (λ w x. refl) (p + 1) r l places)

-- what is wrong first ends all reading, whatever comes behind it
pub wrong_first : (ps qs : List Piece) (n : ℕ) → ps ≡ wrong n ∷ qs → (len left : ℕ) → cannot_read ps len left ≡ at n
unfolding cannot_read
wrong_first ps qs n e len left = ap (λ z. cannot_read z len left) e

-- a lexeme of letters or digits that ends where it may
pub closed : (s : List ℕ) (p r : ℕ) (w : Within) → from s p ≡ pieces (drop r s) r w → (r < length s → goes_on w (get_or s r 0) ≡ false) → ends_at s r ≡ true → from s p ≡ finished w r ++ from s r
closed s p r w e stops ends = e ∙ ended s r w stops ends

-- one that runs into a byte that cannot stand there
pub stuck : (s : List ℕ) (p r : ℕ) (w : Within) → is_between w ≡ false → from s p ≡ pieces (drop r s) r w → (r < length s → goes_on w (get_or s r 0) ≡ false) → ends_at s r ≡ false → from s p ≡ finished w r ++ (wrong r ∷ from s (r + 1))
stuck s p r w o e stops ends = e ∙ broken s r w o stops ends

-- letters or digits and then something, whatever ends them
pub followed : (s : List ℕ) (p r : ℕ) (w : Within) → is_between w ≡ false → from s p ≡ pieces (drop r s) r w → (r < length s → goes_on w (get_or s r 0) ≡ false) → (qs : List Piece) × (from s p ≡ finished w r ++ qs)
followed s p r w o e stops =
    elim (cases_Bool (ends_at s r)) [
      | inl t ↦ (from s r, closed s p r w e stops t)
      | inr t ↦ (wrong r ∷ from s (r + 1), stuck s p r w o e stops t)
    ]

-- a run of letters from start to r, plain or quoted: the piece that it is, too long, or running into a wrong byte
module _ (s : List ℕ) (p start r : ℕ) (k : Within) (good : Piece) (o : is_between k ≡ false) (l : start ≤ r) (h : r ≤ length s)
    (fin : finished k r ≡ cond (leb (length (take (r - start) (drop start s))) 31) (good ∷ []) (wrong (start + 31) ∷ []))
    (run : from s p ≡ pieces (drop r s) r k) (stops : r < length s → goes_on k (get_or s r 0) ≡ false) where
  short : r - start ≤ 31 → finished k r ≡ good ∷ []
  short m =
      let n = run_length s start r l h in
      let t : leb (length (take (r - start) (drop start s))) 31 ≡ true = grind (arith, nat_tests) in
      fin ∙ simp t

  pub letters_are : r - start ≤ 31 → ends_at s r ≡ true → from s p ≡ good ∷ from s r
  letters_are m e = closed s p r k run stops e ∙ ap (λ z. z ++ from s r) (short m)

  pub letters_stuck : ((qs : List Piece) (len left : ℕ) → cannot_read (good ∷ qs) len left ≡ cannot_read qs len left) → r - start ≤ 31 → ends_at s r ≡ false → (len left : ℕ) → cannot_read (from s p) len left ≡ at r
  letters_stuck past m e len left =
      ap (λ z. cannot_read z len left) (stuck s p r k o run stops e ∙ ap (λ z. z ++ (wrong r ∷ from s (r + 1))) (short m)) ∙ past (wrong r ∷ from s (r + 1)) len left ∙ wrong_first _ (from s (r + 1)) r refl len left

  pub letters_long : 31 < r - start → (len left : ℕ) → cannot_read (from s p) len left ≡ at (start + 31)
  letters_long m =
      let n = run_length s start r l h in
      let t : leb (length (take (r - start) (drop start s))) 31 ≡ false = grind (arith, nat_tests) in
      let is : finished k r ≡ wrong (start + 31) ∷ [] = fin ∙ simp t in
      let all = followed s p r k o run stops in
      wrong_first _ all.0 (start + 31) (all.1 ∙ ap (λ z. z ++ all.0) is)

-- a stroke with letters behind it is finished as a word is, and one without is wrong where it ends
pub quoted_finished : (s : List ℕ) (p r : ℕ) → p + 1 < r → r ≤ length s → finished (a_quoted p (take (r - (p + 1)) (drop (p + 1) s))) r ≡ cond (leb (length (take (r - (p + 1)) (drop (p + 1) s))) 31) (slashed p (take (r - (p + 1)) (drop (p + 1) s)) ∷ []) (wrong ((p + 1) + 31) ∷ [])
unfolding finished
quoted_finished s p r l h =
    let n = run_length s (p + 1) r (omega arith) h in
    let t : eqb (length (take (r - (p + 1)) (drop (p + 1) s))) 0 ≡ false = grind (arith, nat_tests) in
    let e : (p + 1) + 31 ≡ p + 32 = omega arith in
    simp (t, e)

pub quoted_empty : (s : List ℕ) (p r : ℕ) → r ≡ p + 1 → from s p ≡ pieces (drop r s) r (a_quoted p (take (r - (p + 1)) (drop (p + 1) s))) → (r < length s → is_letter (get_or s r 0) ≡ false) → (len left : ℕ) → cannot_read (from s p) len left ≡ at r
unfolding finished goes_on is_between
quoted_empty s p r h run stops =
    let z : r - (p + 1) ≡ 0 = omega arith in
    let none = run ∙ ap (λ n. pieces (drop r s) r (a_quoted p (take n (drop (p + 1) s)))) z in
    let all = followed s p r (a_quoted p []) refl none stops in
    wrong_first _ all.0 r all.1

pub brace_is : (s : List ℕ) (i : ℕ) → i < length s → is_brace (get_or s i 0) ≡ true → from s i ≡ braces (get_or s i 0) i ++ from s (i + 1)
unfolding finished goes_on
brace_is s i h b =
    let k : is_space (get_or s i 0) ≡ false = grind (arith, nat_tests) in
    past_brace s i between h refl k b

pub wrong_is : (s : List ℕ) (i : ℕ) → i < length s → is_space (get_or s i 0) ≡ false → is_brace (get_or s i 0) ≡ false → may_begin (get_or s i 0) ≡ false → from s i ≡ wrong i ∷ from s (i + 1)
unfolding finished goes_on is_between
wrong_is s i h k b m = past_wrong s i between h refl k b m
