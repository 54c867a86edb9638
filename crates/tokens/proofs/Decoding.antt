-- Stored tokens read back: what stands first, that fuel makes no difference, and that what was stored is what is read.
use Rattle.std.proofs.Common.{◌≡◌, ℕ, zero, suc, ◌<◌, ◌≤◌, Bool, false, eqb, ltb, List, [], ◌∷◌, ◌++◌, length, get_or, take, drop, Some, None, Option, sym, refl, ap, ◌∙◌, subst, mod-eq_of_lt, arith, length-drop, length-take, Bor}
use Rattle.std.proofs.lemmas.List.{take_at, drop_at}
use Rattle.std.proofs.lemmas.Bool.{le-ltb, lt-ltb, ltb-false, cond-true, cond-false, cond_both}
use Rattle.tokens.specs.Token.{Token, number, does, name, quoted, body, Tokens, none, more, Operator, number_of, adds, takes, multiplies, divides, is_less, copies, drops, swaps, defines, repeats, when, moves, lines, fills, clips_by, greys, shifts, scales, keeps, back, shows, InRange, AllInRange}
use Rattle.tokens.specs.Stored.{stored, all_stored, operator_at, Head, over, plain, nested, operator_head, by_kind, head_of, by_head, decode_in, decode, token_of, head_with, NextToken}
use Rattle.tokens.specs.Laws.{StoredReadsBack}
use Rattle.tokens.specs.declared.Token as code_token

-- the words of a head are fewer than so many
abbrev pub Below : ℕ → Head → Type 0
Below n over = Unit {0}
Below n (plain t rest) = length rest < n
Below n (nested words rest) = (length words < n) × (length rest < n)

below_operator : (n : ℕ) (o : Option Operator) (rest : List ℕ) → length rest < n → Below n (operator_head o rest)
below_operator n None rest h = tt
below_operator n (Some k) rest h = h

below_kind : (n kind v : ℕ) (rest : List ℕ) → length rest < n → Below n (by_kind kind v rest)
below_kind n kind v rest less =
    let P : Head → Type 0 = Below n in
    let cut : length (take v rest) < n = omega (arith, length-take v rest) in
    let left : length (drop v rest) < n = omega (arith, length-drop v rest) in
    cond_both (eqb kind 0) _ _ P (λ _. less)
    (λ _. cond_both (eqb kind 1) _ _ P (λ _. below_operator n (operator_at v) rest less)
    (λ _. cond_both (eqb kind 2) _ _ P (λ _. less)
    (λ _. cond_both (eqb kind 3) _ _ P (λ _. less)
    (λ _. cond_both (eqb kind 4) (nested (take v rest) (drop v rest)) over P (λ _. (cut, left)) (λ _. tt)))))

pub head_below : (ws : List ℕ) → Below (length ws) (head_of ws)
unfolding head_of
head_below ws =
    cond_both (ltb (length ws) 2) over _ (Below (length ws)) (λ _. tt)
    (λ e. below_kind (length ws) (get_or ws 0 0) (get_or ws 1 0) (drop 2 ws) (omega (arith, length-drop 2 ws, ltb-false (length ws) 2 e)))

pub head_long : (ws : List ℕ) (kind : ℕ) → 2 ≤ length ws → get_or ws 0 0 ≡ kind → by_kind kind (get_or ws 1 0) (drop 2 ws) ≡ head_of ws
unfolding head_of
head_long ws kind h e = ap (λ k. by_kind k (get_or ws 1 0) (drop 2 ws)) (sym e) ∙ sym (cond-false _ _ _ (le-ltb (length ws) 2 h))

pub head_short : (ws : List ℕ) → length ws < 2 → head_of ws ≡ over
unfolding head_of
head_short ws h = cond-true _ _ _ (lt-ltb (length ws) 2 h)

-- a row depends on how fewer words are read alone
by_head_same : (f g : List ℕ → Tokens) (h : Head) (n : ℕ) → Below n h → ((v : List ℕ) → length v < n → f v ≡ g v) → by_head f h ≡ by_head g h
by_head_same f g over n b same = refl
by_head_same f g (plain t rest) n b same = ap (more t) (same rest b)
by_head_same f g (nested words rest) n b same = ap (λ z. more (body z) (f rest)) (same words b.0) ∙ ap (more (body (g words))) (same rest b.1)

-- any fuel of at least the number of words will do
enough : (n m : ℕ) (ws : List ℕ) → length ws ≤ n → length ws ≤ m → decode_in n ws ≡ decode_in m ws
unfolding decode_in
enough zero zero ws h k = refl
enough zero (suc m) ws h k = sym (ap (by_head (λ v. decode_in m v)) (head_short ws (omega arith)))
enough (suc n) zero ws h k = ap (by_head (λ v. decode_in n v)) (head_short ws (omega arith))
enough (suc n) (suc m) ws h k = by_head_same (λ v. decode_in n v) (λ v. decode_in m v) (head_of ws) (length ws) (head_below ws) (λ v l. enough n m v (omega arith) (omega arith))

step_by : (n : ℕ) (ws : List ℕ) → length ws ≤ n → decode_in n ws ≡ by_head decode (head_of ws)
unfolding decode_in decode
step_by zero ws h = sym (ap (by_head decode) (head_short ws (omega arith)))
step_by (suc n) ws h = by_head_same (λ v. decode_in n v) decode (head_of ws) (length ws) (head_below ws) (λ v l. enough n (length v) v (omega arith) (omega arith))

-- what some words read as, by what stands first in them
pub decode_step : (ws : List ℕ) → decode ws ≡ by_head decode (head_of ws)
unfolding decode
decode_step ws = step_by (length ws) ws (omega arith)

pub decode_short : (ws : List ℕ) → length ws < 2 → decode ws ≡ none
decode_short ws h = decode_step ws ∙ ap (by_head decode) (head_short ws h)

pub operator_back : (k : Operator) → operator_at (number_of k) ≡ Some k
unfolding number_of
operator_back adds = refl
operator_back takes = refl
operator_back multiplies = refl
operator_back divides = refl
operator_back is_less = refl
operator_back copies = refl
operator_back drops = refl
operator_back swaps = refl
operator_back defines = refl
operator_back repeats = refl
operator_back when = refl
operator_back moves = refl
operator_back lines = refl
operator_back fills = refl
operator_back clips_by = refl
operator_back greys = refl
operator_back shifts = refl
operator_back scales = refl
operator_back keeps = refl
operator_back back = refl
operator_back shows = refl

-- two words more are at least two
two_more : (ws : List ℕ) → ltb (suc (suc (length ws))) 2 ≡ false
two_more ws = le-ltb _ _ (omega arith)

mutual
  unfolding stored all_stored head_of

  pub read_back : (can : ℕ → Bool) (ts : Tokens) → AllInRange can ts → decode (all_stored ts) ≡ ts
  read_back can none r = decode_short [] (omega arith)
  read_back can (more t ts) r = read_token can t (all_stored ts) r.0 ∙ ap (more t) (read_back can ts r.1)

  read_token : (can : ℕ → Bool) (t : Token) (rest : List ℕ) → InRange can t → decode (stored t ++ rest) ≡ more t (decode rest)
  read_token can (number v) rest r = let t = two_more rest in decode_step (0 ∷ (v ∷ rest)) ∙ simp t (ap (λ z. more (number z) (decode rest)) (mod-eq_of_lt r))
  read_token can (does k) rest r = let t = two_more rest in let o = operator_back k in decode_step (1 ∷ (number_of k ∷ rest)) ∙ simp (t, o)
  read_token can (name v) rest r = let t = two_more rest in decode_step (2 ∷ (v ∷ rest)) ∙ simp t (ap (λ z. more (name z) (decode rest)) (mod-eq_of_lt r))
  read_token can (quoted v) rest r = let t = two_more rest in decode_step (3 ∷ (v ∷ rest)) ∙ simp t (ap (λ z. more (quoted z) (decode rest)) (mod-eq_of_lt r))
  read_token can (body bs) rest r =
      let t = two_more (all_stored bs ++ rest) in
      let a = take_at (all_stored bs) rest (length (all_stored bs)) refl in
      let b = drop_at (all_stored bs) rest (length (all_stored bs)) refl in
      decode_step (4 ∷ (length (all_stored bs) ∷ (all_stored bs ++ rest))) ∙ simp (t, a, b) (ap (λ z. more (body z) (decode rest)) (read_back can bs r))

pub stored_reads_back : StoredReadsBack
stored_reads_back can ts r = read_back can ts r

-- the next token as the code has it, from what stands first
followed_by : (t : code_token.Token) (rest : List ℕ) → by_head decode (head_with t rest) ≡ more (token_of t) (decode rest)
followed_by (code_token.TheVariants.Number n) rest = refl
followed_by (code_token.TheVariants.Does op) rest = refl
followed_by (code_token.TheVariants.Name k) rest = refl
followed_by (code_token.TheVariants.Quoted k) rest = refl
followed_by (code_token.TheVariants.Body b) rest = refl

below_rest : (n : ℕ) (t : code_token.Token) (rest : List ℕ) → Below n (head_with t rest) → length rest < n
below_rest n (code_token.TheVariants.Number k) rest h = h
below_rest n (code_token.TheVariants.Does op) rest h = h
below_rest n (code_token.TheVariants.Name k) rest h = h
below_rest n (code_token.TheVariants.Quoted k) rest h = h
below_rest n (code_token.TheVariants.Body b) rest h = h.1

pub next_over : (ws : List ℕ) → over ≡ head_of ws → NextToken None ws
next_over ws e = record { head = e; value = ap (by_head decode) e ∙ sym (decode_step ws); len = tt }

pub next_is : (t : code_token.Token) (rest : Bor (List ℕ)) (ws : List ℕ) → head_with t rest.now ≡ head_of ws → NextToken (Some (t, rest)) ws
next_is t rest ws e =
    record {
      head = e;
      value = sym (followed_by t rest.now) ∙ ap (by_head decode) e ∙ sym (decode_step ws);
      len = below_rest (length ws) t rest.now (subst (Below (length ws)) (sym e) (head_below ws));
    }
