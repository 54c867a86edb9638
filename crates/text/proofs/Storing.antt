-- A row of tokens that is being stored, one lexeme at a time.
use Rattle.std.proofs.Common.{◌≡◌, ℕ, suc, ◌+◌, ◌-◌, ◌<◌, ◌≤◌, Bool, true, false, ◌&&◌, eqb, ltb, List, [], ◌∷◌, ◌++◌, length, take, drop, set, sym, refl, ap, ◌∙◌, subst, arith, length-append, length-set, length-take, take-suc-set, drop-set-lt}
use lib.Seq.{take-set-lt, set-append_left}
use Rattle.std.proofs.lemmas.List.{append-nil, append_assoc, drop-drop}
use Rattle.std.proofs.lemmas.Bool.{and_parts}
use Rattle.std.proofs.lemmas.Bool.Decides.{nat_tests}
use Rattle.tokens.specs.Token.{Token, body, Tokens, none, more, turned}
use Rattle.lexer.specs.Reading.{Piece, opens, closes, digits, word, slashed, wrong, fine, cannot_read, above_limit, build, Found, operator, no_operator, as_operator, as_token}
use Rattle.tokens.specs.declared.Token as code_token
use Rattle.tokens.specs.Stored.{stored, all_stored, token_of}
use Rattle.words.specs.Meaning.{Plain, plain_limit, plain_token, plain_names}
use Rattle.text.specs.Storing.{begun_with, Ready, row_end, StoredRow}
use Rattle.lexer.proofs.Faults.{passed, failed}

-- two words set at the end of a front, whatever is stored behind them
pub head_set : (ws : List ℕ) (u k n : ℕ) → u + 2 ≤ length ws → take (u + 2) (set (set ws u k) (u + 1) n) ≡ take u ws ++ (k ∷ (n ∷ []))
head_set ws u k n h =
    let l = length-set ws u k in
    let e : u + 2 ≡ suc (u + 1) = omega arith in
    let f : u + 1 ≡ suc u = omega arith in
    ap (λ z. take z (set (set ws u k) (u + 1) n)) e ∙ take-suc-set (set ws u k) (u + 1) n (omega arith) ∙ ap (λ z. take z (set ws u k) ++ (n ∷ [])) f ∙ ap (λ z. z ++ (n ∷ [])) (take-suc-set ws u k (omega arith)) ∙ append_assoc (take u ws) (k ∷ []) (n ∷ [])

pub header_set : (ws vs bs : List ℕ) (u k n e : ℕ) → u + 2 ≤ length ws → u + 2 ≤ e → take e vs ≡ take (u + 2) ws ++ bs → take e (set (set vs u k) (u + 1) n) ≡ (take u ws ++ (k ∷ (n ∷ []))) ++ bs
header_set ws vs bs u k n e h l f =
    let m = length-take (u + 2) ws in
    let two = take (u + 2) ws in
    let first : set (two ++ bs) u k ≡ set two u k ++ bs = set-append_left two bs u k (omega arith) in
    let second : set (set two u k ++ bs) (u + 1) n ≡ set (set two u k) (u + 1) n ++ bs = set-append_left (set two u k) bs (u + 1) n (omega (arith, length-set two u k)) in
    let back : set (set two u k) (u + 1) n ≡ take (u + 2) (set (set ws u k) (u + 1) n) = ap (λ z. set z (u + 1) n) (sym (take-set-lt (u + 2) ws u k (omega arith))) ∙ sym (take-set-lt (u + 2) (set ws u k) (u + 1) n (omega arith)) in
    take-set-lt e (set vs u k) (u + 1) n (omega arith) ∙ ap (λ z. set z (u + 1) n) (take-set-lt e vs u k (omega arith)) ∙ ap (λ z. set (set z u k) (u + 1) n) f ∙ ap (λ z. set z (u + 1) n) first ∙ second ∙ ap (λ z. z ++ bs) (back ∙ head_set ws u k n h)

pub behind_set : (ws : List ℕ) (u k n e : ℕ) → u + 2 ≤ e → drop e (set (set ws u k) (u + 1) n) ≡ drop e ws
behind_set ws u k n e l = drop-set-lt e (set ws u k) (u + 1) n (omega arith) ∙ drop-set-lt e ws u k (omega arith)

-- one token more is stored behind the others
stored_behind : (xs : List Token) (ts : Tokens) → all_stored (turned xs ts) ≡ all_stored (turned xs none) ++ all_stored ts
unfolding turned stored all_stored
stored_behind [] ts = refl
stored_behind (x ∷ xs) ts =
    stored_behind xs (more x ts) ∙ ap (λ z. all_stored (turned xs none) ++ z) (ap (λ z. z ++ all_stored ts) (sym (append-nil (stored x)))) ∙ sym (append_assoc (all_stored (turned xs none)) (stored x ++ []) (all_stored ts)) ∙ ap (λ z. z ++ all_stored ts) (sym (stored_behind xs (more x none)))

pub stored_more : (x : Token) (xs : List Token) → all_stored (turned (x ∷ xs) none) ≡ all_stored (turned xs none) ++ stored x
unfolding turned stored all_stored
stored_more x xs = stored_behind xs (more x none) ∙ ap (λ z. all_stored (turned xs none) ++ z) (append-nil (stored x))

-- what the next piece needs, and what is then known of the rest
pub ready_plain : (can : ℕ → Bool) (q : Piece) (ps : List Piece) (ws : List (List ℕ)) (len left used room : ℕ) → Plain q → Ready can len left used room (q ∷ ps) ws → (plain_limit can q ws ≡ true) × Ready can len left (used + 2) room ps (plain_names q ws)
unfolding cannot_read above_limit
ready_plain can (opens n) ps ws len left used room p r = absurd p
ready_plain can (closes n) ps ws len left used room p r = absurd p
ready_plain can (digits n v) ps ws len left used room p r =
    let t = passed (ltb r.count 65536 && ltb v 2147483648) (above_limit ps can (suc r.count) left ws) n r.within in
    ((and_parts _ _ t.0).1, record { readable = r.readable; count = suc r.count; within = t.1; enough = omega (arith, r.enough) })
ready_plain can (word n w) ps ws len left used room p r =
    let t = passed (ltb r.count 65536 && plain_limit can (word n w) ws) (above_limit ps can (suc r.count) left (plain_names (word n w) ws)) n r.within in
    ((and_parts _ _ t.0).1, record { readable = r.readable; count = suc r.count; within = t.1; enough = omega (arith, r.enough) })
ready_plain can (slashed n w) ps ws len left used room p r =
    let t = passed (ltb r.count 65536 && plain_limit can (slashed n w) ws) (above_limit ps can (suc r.count) left (plain_names (slashed n w) ws)) n r.within in
    ((and_parts _ _ t.0).1, record { readable = r.readable; count = suc r.count; within = t.1; enough = omega (arith, r.enough) })
ready_plain can (wrong n) ps ws len left used room p r = absurd p

pub ready_open : (can : ℕ → Bool) (n : ℕ) (ps : List Piece) (ws : List (List ℕ)) (len left used room : ℕ) → Ready can len left used room (opens n ∷ ps) ws → (left < 32) × Ready can len (left + 1) (used + 2) room ps ws
unfolding cannot_read above_limit
ready_open can n ps ws len left used room r =
    let t = passed (ltb r.count 65536 && ltb left 32) (above_limit ps can (suc r.count) (suc left) ws) n r.within in
    let deep : ltb left 32 ≡ true = (and_parts (ltb r.count 65536) (ltb left 32) t.0).1 in
    let e : suc left ≡ left + 1 = omega arith in
    (grind (arith, nat_tests), record { readable = ap (λ z. cannot_read ps len z) (sym e) ∙ r.readable; count = suc r.count; within = ap (λ z. above_limit ps can (suc r.count) z ws) (sym e) ∙ t.1; enough = omega (arith, r.enough) })

pub ready_close : (can : ℕ → Bool) (n : ℕ) (ps : List Piece) (ws : List (List ℕ)) (len left used room : ℕ) → Ready can len left used room (closes n ∷ ps) ws → (left ≡ 0 → ⊥) × Ready can len (left - 1) used room ps ws
unfolding cannot_read above_limit
ready_close can n ps ws len left used room r =
    let c = failed (eqb left 0) (cannot_read ps len (left - 1)) n r.readable in
    let still : eqb left 0 ≡ false = c.0 in
    let t = passed (ltb r.count 65536) (above_limit ps can (suc r.count) (left - 1) ws) n r.within in
    ((λ z. grind (arith, nat_tests)), record { readable = c.1; count = suc r.count; within = t.1; enough = omega (arith, r.enough) })

pub ready_end : (can : ℕ → Bool) (ws : List (List ℕ)) (len left used room : ℕ) → Ready can len left used room [] ws → left ≡ 0
unfolding cannot_read
ready_end can ws len left used room r =
    let t = passed (eqb left 0) fine len r.readable in
    let none : eqb left 0 ≡ true = t.0 in
    grind (arith, nat_tests)

-- a number or a word is a token of its row
pub plain_built : (q : Piece) (ps : List Piece) (ws : List (List ℕ)) (cur : List Token) (outer : List (List Token)) → Plain q → build (q ∷ ps) ws cur outer ≡ build ps (plain_names q ws) (plain_token q ws ∷ cur) outer
unfolding build
plain_built (opens n) ps ws cur outer p = absurd p
plain_built (closes n) ps ws cur outer p = absurd p
plain_built (digits n v) ps ws cur outer p = refl
plain_built (word n w) ps ws cur outer p = refl
plain_built (slashed n w) ps ws cur outer p = refl
plain_built (wrong n) ps ws cur outer p = absurd p

-- a brace that closes makes the row a body of the row around it; at the end of the text the row is the whole
pub close_built : (n : ℕ) (ps : List Piece) (ws : List (List ℕ)) (cur : List Token) (outer : List (List Token)) → (length outer ≡ 0 → ⊥) → build (closes n ∷ ps) ws cur outer ≡ row_end (turned cur none) ps ws outer
unfolding build
close_built n ps ws cur [] h = absurd (h refl)
close_built n ps ws cur (o ∷ os) h = refl

pub end_built : (ws : List (List ℕ)) (cur : List Token) (outer : List (List Token)) → length outer ≡ 0 → build [] ws cur outer ≡ row_end (turned cur none) [] ws outer
unfolding build
end_built ws cur [] h = refl
end_built ws cur (o ∷ os) h = absurd (omega arith)

drop_more : (i n : ℕ) (xs ys : List ℕ) → drop i xs ≡ drop i ys → drop (i + n) xs ≡ drop (i + n) ys
drop_more i n xs ys e = sym (drop-drop n i xs) ∙ ap (drop n) e ∙ drop-drop n i ys

drop_past : (i j : ℕ) (xs ys : List ℕ) → i ≤ j → drop i xs ≡ drop i ys → drop j xs ≡ drop j ys
drop_past i j xs ys h e =
    let k : i + (j - i) ≡ j = omega arith in
    subst (λ z. drop z xs ≡ drop z ys) k (drop_more i (j - i) xs ys e)

-- a row of which some tokens are stored: what is left of the text gives the rest
module _ (can : ℕ → Bool) (len left : ℕ) (ps₀ : List Piece) (ws₀ : List (List ℕ)) (used₀ : ℕ) (words : List ℕ) where
  pub record Part (ps : List Piece) (ws : List (List ℕ)) (used : ℕ) (now : List ℕ) : Type 0 where
    pub row : List Token
    pub built : (cur : List Token) (outer : List (List Token)) → length outer ≡ left → build ps₀ ws₀ cur outer ≡ build ps ws (row ++ cur) outer
    pub front : take used now ≡ take used₀ words ++ all_stored (turned row none)
    pub behind : drop used now ≡ drop used words
    pub ends : used ≡ used₀ + length (all_stored (turned row none))
    pub ready : Ready can len left used (length words) ps ws

  pub part_none : used₀ ≤ length words → Ready can len left used₀ (length words) ps₀ ws₀ → Part ps₀ ws₀ used₀ words
  unfolding turned all_stored
  part_none h r = record { row = []; built = λ cur outer l. refl; front = sym (append-nil (take used₀ words)); behind = refl; ends = omega arith; ready = r }

  -- the front with one more token
  front_more : (t : Token) (row : List Token) (front : List ℕ) → front ≡ take used₀ words ++ all_stored (turned row none) → front ++ stored t ≡ take used₀ words ++ all_stored (turned (t ∷ row) none)
  front_more t row front e =
      ap (λ z. z ++ stored t) e ∙ append_assoc (take used₀ words) (all_stored (turned row none)) (stored t) ∙ ap (λ z. take used₀ words ++ z) (sym (stored_more t row))

  ends_more : (t : Token) (row : List Token) (used n : ℕ) → used ≡ used₀ + length (all_stored (turned row none)) → length (stored t) ≡ n → used + n ≡ used₀ + length (all_stored (turned (t ∷ row) none))
  ends_more t row used n e l = omega (arith, ap length (stored_more t row), length-append (all_stored (turned row none)) (stored t))

  pub part_plain : (q : Piece) (ps : List Piece) (ws vs : List (List ℕ)) (used : ℕ) (now : List ℕ) (t : Token) (k n : ℕ) → Part (q ∷ ps) ws used now → length now ≡ length words → Plain q → t ≡ plain_token q ws → vs ≡ plain_names q ws → stored t ≡ k ∷ (n ∷ []) → Part ps vs (used + 2) (set (set now used k) (used + 1) n)
  part_plain q ps ws vs used now t k n part same plain is names two =
      let room = part.ready.enough in
      let ready = (ready_plain can q ps ws len left used (length words) plain part.ready).1 in
      record {
        row = t ∷ part.row;
        built = λ cur outer l. part.built cur outer l ∙ plain_built q ps ws (part.row ++ cur) outer plain ∙ ap (λ z. build ps z (plain_token q ws ∷ (part.row ++ cur)) outer) (sym names) ∙ ap (λ z. build ps vs (z ∷ (part.row ++ cur)) outer) (sym is);
        front = head_set now used k n (omega arith) ∙ ap (λ z. take used now ++ z) (sym two) ∙ front_more t part.row (take used now) part.front;
        behind = behind_set now used k n (used + 2) (omega arith) ∙ drop_more used 2 now words part.behind;
        ends = ends_more t part.row used 2 part.ends (ap length two);
        ready = subst (Ready can len left (used + 2) (length words) ps) (sym names) ready;
      }

  pub part_body : (n : ℕ) (ps qs : List Piece) (ws vs : List (List ℕ)) (used end : ℕ) (now later : List ℕ) → Part (opens n ∷ ps) ws used now → length now ≡ length words → StoredRow can len (left + 1) ps ws (used + 2) now qs vs end later → Part qs vs end (set (set later used 4) (used + 1) (end - (used + 2)))
  unfolding build stored
  part_body n ps qs ws vs used end now later part same inner =
      let room = part.ready.enough in
      let bs = all_stored (turned inner.row none) in
      let t = body (turned inner.row none) in
      let many : end - (used + 2) ≡ length bs = omega (arith, inner.ends) in
      let outermost : left + 1 - 1 ≡ left = omega arith in
      record {
        row = t ∷ part.row;
        built = λ cur outer l. part.built cur outer l ∙ inner.built [] ((part.row ++ cur) ∷ outer) (omega arith) ∙ ap (λ z. build qs vs (body (turned z none) ∷ (part.row ++ cur)) outer) (append-nil inner.row);
        front = header_set now later bs used 4 (end - (used + 2)) end (omega arith) (omega (arith, inner.ends)) inner.front ∙ append_assoc (take used now) (4 ∷ ((end - (used + 2)) ∷ [])) bs ∙ ap (λ z. take used now ++ (4 ∷ (z ∷ bs))) many ∙ front_more t part.row (take used now) part.front;
        behind = behind_set later used 4 (end - (used + 2)) end (omega (arith, inner.ends)) ∙ inner.behind ∙ drop_past used end now words (omega (arith, inner.ends)) part.behind;
        ends = inner.ends ∙ (omega arith) ∙ ends_more t part.row used (2 + length bs) part.ends (omega arith);
        ready = subst (λ z. Ready can len z end (length words) qs vs) outermost (subst (λ z. Ready can len (left + 1 - 1) end z qs vs) same inner.ready);
      }

  pub part_close : (n : ℕ) (qs : List Piece) (ws : List (List ℕ)) (used : ℕ) (now : List ℕ) → Part (closes n ∷ qs) ws used now → StoredRow can len left ps₀ ws₀ used₀ words qs ws used now
  part_close n qs ws used now part =
      let ready = ready_close can n qs ws len left used (length words) part.ready in
      record { row = part.row; built = λ cur outer l. part.built cur outer l ∙ close_built n qs ws (part.row ++ cur) outer (λ z. ready.0 (sym l ∙ z)); front = part.front; behind = part.behind; ends = part.ends; ready = ready.1 }

  pub part_end : (ws : List (List ℕ)) (used : ℕ) (now : List ℕ) → Part [] ws used now → StoredRow can len left ps₀ ws₀ used₀ words [] ws used now
  part_end ws used now part =
      let none = ready_end can ws len left used (length words) part.ready in
      record { row = part.row; built = λ cur outer l. part.built cur outer l ∙ end_built ws (part.row ++ cur) outer (l ∙ none); front = part.front; behind = part.behind; ends = part.ends; ready = subst (λ z. Ready can len z used (length words) [] ws) (omega arith) part.ready }

no_body : {ts : Tokens} (f : Found) (ws : List (List ℕ)) (w : List ℕ) → body ts ≡ as_token f ws w → ⊥
unfolding as_token
no_body (operator o) ws w e = let z : ◌≡◌ {A = ℕ} 0 1 = cc in omega arith
no_body no_operator ws w e = let z : ◌≡◌ {A = ℕ} 0 1 = cc in omega arith

-- the two words that a number's or a word's token begins with are all of it
pub two_words : (t : code_token.Token) (q : Piece) (ws : List (List ℕ)) → Plain q → token_of t ≡ plain_token q ws → stored (token_of t) ≡ (begun_with t).0 ∷ ((begun_with t).1 ∷ [])
unfolding stored as_token
two_words (code_token.TheVariants.Number n) q ws p e = refl
two_words (code_token.TheVariants.Does op) q ws p e = refl
two_words (code_token.TheVariants.Name k) q ws p e = refl
two_words (code_token.TheVariants.Quoted k) q ws p e = refl
two_words (code_token.TheVariants.Body b) (opens n) ws p e = absurd p
two_words (code_token.TheVariants.Body b) (closes n) ws p e = absurd p
two_words (code_token.TheVariants.Body b) (digits n v) ws p e = let z : ◌≡◌ {A = ℕ} 0 1 = cc in absurd (omega arith)
two_words (code_token.TheVariants.Body b) (word n w) ws p e = absurd (no_body (as_operator w) ws w e)
two_words (code_token.TheVariants.Body b) (slashed n w) ws p e = let z : ◌≡◌ {A = ℕ} 0 1 = cc in absurd (omega arith)
two_words (code_token.TheVariants.Body b) (wrong n) ws p e = absurd p
