-- The pieces of a text, one byte at a time, and where a piece ends.
use Rattle.std.proofs.Common.{◌≡◌, ℕ, zero, suc, ◌+◌, ◌-◌, ◌*◌, ◌<◌, ◌≤◌, min, true, false, not, ◌&&◌, eqb, ltb, List, ◌∷◌, ◌++◌, length, get_or, drop, sym, refl, ap, ◌∙◌, inl, inr, add-zero, add-one, length-drop, arith, drop-cons}
use Rattle.std.specs.List.{prefix_len}
use Rattle.std.proofs.lemmas.List.{drop_all, append-nil, get_or-drop}
use Rattle.std.proofs.lemmas.List.Sums.{prefix_len-le-length, prefix_len_passes, prefix_len_stops}
use Rattle.std.proofs.lemmas.Bool.{cases_Bool}
use Rattle.std.proofs.lemmas.Bool.Decides.{nat_tests, leb_tells}
use Rattle.lexer.specs.Reading.{wrong, Within, between, a_number, a_remark, is_space, is_digit, is_letter, is_brace, may_begin, braces, begun, finished, goes_on, with_byte, is_between, pieces}
use Rattle.lexer.specs.Lexing.{from, in_line, ends_at}

-- a byte that goes on with what has begun
pub goes : (s : List ℕ) (i : ℕ) (w : Within) → i < length s → goes_on w (get_or s i 0) ≡ true → pieces (drop i s) i w ≡ pieces (drop (i + 1) s) (i + 1) (with_byte w (get_or s i 0))
unfolding pieces
goes s i w h g = rw (add-one, drop-cons s i 0) (simp g)

-- past a space or an end of line nothing has begun; if something had, it is finished
pub past_space : (s : List ℕ) (i : ℕ) (w : Within) → i < length s → goes_on w (get_or s i 0) ≡ false → is_space (get_or s i 0) ≡ true → pieces (drop i s) i w ≡ finished w i ++ from s (i + 1)
unfolding pieces
past_space s i w h g k = rw (add-one, drop-cons s i 0) (simp (g, k))

pub past_brace : (s : List ℕ) (i : ℕ) (w : Within) → i < length s → goes_on w (get_or s i 0) ≡ false → is_space (get_or s i 0) ≡ false → is_brace (get_or s i 0) ≡ true → pieces (drop i s) i w ≡ finished w i ++ (braces (get_or s i 0) i ++ from s (i + 1))
unfolding pieces
past_brace s i w h g k b = rw (add-one, drop-cons s i 0) (simp (g, k, b))

-- a byte that can neither go on nor end what has begun, nor begin something
pub past_wrong : (s : List ℕ) (i : ℕ) (w : Within) → i < length s → goes_on w (get_or s i 0) ≡ false → is_space (get_or s i 0) ≡ false → is_brace (get_or s i 0) ≡ false → (is_between w && may_begin (get_or s i 0)) ≡ false → pieces (drop i s) i w ≡ finished w i ++ (wrong i ∷ from s (i + 1))
unfolding pieces
past_wrong s i w h g k b m = rw (add-one, drop-cons s i 0) (simp (g, k, b, m))

pub begins : (s : List ℕ) (i : ℕ) → i < length s → is_space (get_or s i 0) ≡ false → is_brace (get_or s i 0) ≡ false → may_begin (get_or s i 0) ≡ true → from s i ≡ pieces (drop (i + 1) s) (i + 1) (begun (get_or s i 0) i)
unfolding pieces goes_on is_between
begins s i h k b m = rw (add-one, drop-cons s i 0) (simp (k, b, m))

pub at_end : (s : List ℕ) (i : ℕ) (w : Within) → length s ≤ i → pieces (drop i s) i w ≡ finished w i
unfolding pieces
at_end s i w h = rw (drop_all i s h)

-- a remark goes on up to the end of its line
pub remark_goes : (s : List ℕ) (i : ℕ) → i < length s → eqb (get_or s i 0) 10 ≡ false → pieces (drop i s) i a_remark ≡ pieces (drop (i + 1) s) (i + 1) a_remark
unfolding goes_on with_byte
remark_goes s i h n = goes s i a_remark h (ap not n)

pub remark_ends : (s : List ℕ) (i : ℕ) → i < length s → eqb (get_or s i 0) 10 ≡ true → pieces (drop i s) i a_remark ≡ from s i
unfolding goes_on finished
remark_ends s i h n =
    let k : is_space (get_or s i 0) ≡ true = grind (arith, nat_tests) in
    past_space s i a_remark h (ap not n) k ∙ sym (past_space s i between h refl k)

pub remark_over : (s : List ℕ) (i : ℕ) → length s ≤ i → pieces (drop i s) i a_remark ≡ from s i
unfolding finished
remark_over s i h = at_end s i a_remark h ∙ sym (at_end s i between h)

-- the bytes of a line that are still a remark's, and the end behind them
remark_run : (s : List ℕ) (i n : ℕ) → i + n ≤ length s → ((k : ℕ) → k < n → in_line (get_or (drop i s) k 0) ≡ true) → pieces (drop i s) i a_remark ≡ pieces (drop (i + n) s) (i + n) a_remark
remark_run s i zero h f = rw add-zero refl
remark_run s i (suc n) h f =
    let first : i ≡ i + 0 = omega arith in
    let same : (i + 1) + n ≡ i + suc n = omega arith in
    let t : in_line (get_or s i 0) ≡ true = ap in_line (ap (λ z. get_or s z 0) first ∙ sym (get_or-drop i s 0 0)) ∙ f 0 (omega arith) in
    let here : eqb (get_or s i 0) 10 ≡ false = grind (arith, nat_tests) in
    let others : (k : ℕ) → k < n → in_line (get_or (drop (i + 1) s) k 0) ≡ true =
    λ k l.
    let next : (i + 1) + k ≡ i + suc k = omega arith in
    ap in_line (get_or-drop (i + 1) s k 0 ∙ ap (λ z. get_or s z 0) next ∙ sym (get_or-drop i s (suc k) 0)) ∙ f (suc k) (omega arith) in
    remark_goes s i (omega arith) here ∙ remark_run s (i + 1) n (omega arith) others ∙ ap (λ z. pieces (drop z s) z a_remark) same

pub remark_skipped : (s : List ℕ) (i : ℕ) → i ≤ length s → pieces (drop i s) i a_remark ≡ from s (i + prefix_len in_line (drop i s))
remark_skipped s i h =
    let d = drop i s in
    let n = prefix_len in_line d in
    let fits = prefix_len-le-length in_line d in
    let len = length-drop i s in
    remark_run s i n (omega (arith, fits, len)) (λ k l. prefix_len_passes in_line d k 0 l)
    ∙ elim (cases_Bool (ltb (i + n) (length s))) [
      | inl t ↦
          let inside : i + n < length s = grind (arith, nat_tests) in
          let ends : in_line (get_or s (i + n) 0) ≡ false = ap in_line (sym (get_or-drop i s n 0)) ∙ prefix_len_stops in_line d 0 (omega (arith, fits, len)) in
          remark_ends s (i + n) inside (grind (arith, nat_tests))
      | inr t ↦ remark_over s (i + n) (grind (arith, nat_tests))
    ]

pub skip_space : (s : List ℕ) (i : ℕ) → i < length s → is_space (get_or s i 0) ≡ true → from s i ≡ from s (i + 1)
unfolding goes_on finished
skip_space s i h k = past_space s i between h refl k

pub enter_remark : (s : List ℕ) (i : ℕ) → i < length s → eqb (get_or s i 0) 37 ≡ true → from s i ≡ pieces (drop (i + 1) s) (i + 1) a_remark
unfolding begun
enter_remark s i h n =
    let b = get_or s i 0 in
    let k : is_space b ≡ false = grind (arith, nat_tests) in
    let r : is_brace b ≡ false = grind (arith, nat_tests) in
    let m : may_begin b ≡ true = grind (arith, nat_tests) in
    let d : is_digit b ≡ false = grind (arith, nat_tests) in
    let l : is_letter b ≡ false = grind (arith, nat_tests) in
    let q : eqb b 47 ≡ false = grind (arith, nat_tests) in
    begins s i h k r m ∙ ap (pieces (drop (i + 1) s) (i + 1)) (simp (d, l, q, n))

pub number_goes : (s : List ℕ) (i p n : ℕ) → i < length s → is_digit (get_or s i 0) ≡ true → pieces (drop i s) i (a_number p n) ≡ pieces (drop (i + 1) s) (i + 1) (a_number p (10 * n + (get_or s i 0 - 48)))
unfolding goes_on with_byte
number_goes s i p n h d = goes s i (a_number p n) h d

-- a digit more after the cap leaves the cap
pub capped_more : (v n d : ℕ) → v ≡ min n 2147483648 → min (10 * v + d) 2147483648 ≡ min (10 * n + d) 2147483648
capped_more v n d h = omega arith

-- where a piece may end it is finished, and nothing has begun
pub ended : (s : List ℕ) (i : ℕ) (w : Within) → (i < length s → goes_on w (get_or s i 0) ≡ false) → ends_at s i ≡ true → pieces (drop i s) i w ≡ finished w i ++ from s i
unfolding finished goes_on
ended s i w g e =
    elim (leb_tells (length s) i) [
      | inl h ↦ at_end s i w h.1 ∙ sym (append-nil (finished w i)) ∙ ap (λ z. finished w i ++ z) (sym (at_end s i between h.1))
      | inr h ↦
          elim (cases_Bool (is_space (get_or s i 0))) [
            | inl k ↦ past_space s i w h.1 (g h.1) k ∙ ap (λ z. finished w i ++ z) (sym (past_space s i between h.1 refl k))
            | inr k ↦
                let b : is_brace (get_or s i 0) ≡ true = sym (simp (h.0, k)) ∙ e in
                past_brace s i w h.1 (g h.1) k b ∙ ap (λ z. finished w i ++ z) (sym (past_brace s i between h.1 refl k b))
          ]
    ]

-- where it may not end, and does not go on, the byte is wrong
pub broken : (s : List ℕ) (i : ℕ) (w : Within) → is_between w ≡ false → (i < length s → goes_on w (get_or s i 0) ≡ false) → ends_at s i ≡ false → pieces (drop i s) i w ≡ finished w i ++ (wrong i ∷ from s (i + 1))
broken s i w o g e =
    let h : i < length s = grind (arith, nat_tests) in
    let k : is_space (get_or s i 0) ≡ false = grind (arith, nat_tests) in
    let b : is_brace (get_or s i 0) ≡ false = grind (arith, nat_tests) in
    past_wrong s i w h (g h) k b (ap (λ z. z && may_begin (get_or s i 0)) o)
