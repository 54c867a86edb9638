-- The written form can be read back, so it is that of no other tokens.
use Rattle.std.proofs.Common.{◌≡◌, ℕ, cond, eqb, List, [], ◌∷◌, ◌++◌, get_or, sym, refl, ap, ◌∙◌}
use Rattle.std.proofs.lemmas.List.{append-nil, append_assoc}
use Rattle.tokens.specs.Token.{Token, number, does, name, quoted, body, Tokens, none, more, Operator, number_of, adds, takes, multiplies, divides, is_less, copies, drops, swaps, defines, repeats, when, moves, lines, fills, clips_by, greys, shifts, scales, keeps, back, shows, written, all_written, turned}
use Rattle.tokens.specs.Laws.{ReadsBack}

operator_of : ℕ → Operator
operator_of n =
    get_or (adds ∷ takes ∷ multiplies ∷ divides ∷ is_less ∷ copies ∷ drops ∷ swaps ∷ defines ∷ repeats ∷ when ∷ moves ∷ lines ∷ fills ∷ clips_by ∷ greys ∷ shifts ∷ scales ∷ keeps ∷ back ∷ shows ∷ []) n adds

operator_read : (o : Operator) → operator_of (number_of o) ≡ o
unfolding operator_of number_of
operator_read adds = refl
operator_read takes = refl
operator_read multiplies = refl
operator_read divides = refl
operator_read is_less = refl
operator_read copies = refl
operator_read drops = refl
operator_read swaps = refl
operator_read defines = refl
operator_read repeats = refl
operator_read when = refl
operator_read moves = refl
operator_read lines = refl
operator_read fills = refl
operator_read clips_by = refl
operator_read greys = refl
operator_read shifts = refl
operator_read scales = refl
operator_read keeps = refl
operator_read back = refl
operator_read shows = refl

-- what comes next in the row of numbers: what kind of token, or the number of one of that kind
data Next : Type 0 where
  a_kind : Next
  its_number : ℕ → Next

made : ℕ → ℕ → Token
made k n = cond (eqb k 0) (number n) (cond (eqb k 1) (does (operator_of n)) (cond (eqb k 2) (name n) (quoted n)))

first_row : List (List Token) → List Token
first_row [] = []
first_row (r ∷ rs) = r

other_rows : List (List Token) → List (List Token)
other_rows [] = []
other_rows (r ∷ rs) = rs

-- reading back: rows that are still open, each in reverse, the innermost first
unwritten : List ℕ → Next → List Token → List (List Token) → Tokens
unwritten [] next cur outer = turned cur none
unwritten (n ∷ ns) (its_number k) cur outer = unwritten ns a_kind (made k n ∷ cur) outer
unwritten (k ∷ ns) a_kind cur outer =
    cond (eqb k 4) (unwritten ns a_kind [] (cur ∷ outer))
    (cond (eqb k 5) (unwritten ns a_kind (body (turned cur none) ∷ first_row outer) (other_rows outer)) (unwritten ns (its_number k) cur outer))

-- tokens put onto a row in reverse
onto : Tokens → List Token → List Token
onto none cur = cur
onto (more t ts) cur = onto ts (t ∷ cur)

turned_onto : (ts : Tokens) (cur : List Token) → turned (onto ts cur) none ≡ turned cur ts
unfolding turned onto
turned_onto none cur = refl
turned_onto (more t ts) cur = turned_onto ts (t ∷ cur)

mutual
  unfolding unwritten made onto turned first_row other_rows

  token_unwritten : (t : Token) (ns : List ℕ) (cur : List Token) (outer : List (List Token)) → unwritten (written t ++ ns) a_kind cur outer ≡ unwritten ns a_kind (t ∷ cur) outer
  token_unwritten (number n) ns cur outer = refl
  token_unwritten (does o) ns cur outer = ap (λ z. unwritten ns a_kind (does z ∷ cur) outer) (operator_read o)
  token_unwritten (name k) ns cur outer = refl
  token_unwritten (quoted k) ns cur outer = refl
  token_unwritten (body ts) ns cur outer =
      ap (λ z. unwritten z a_kind [] (cur ∷ outer)) (append_assoc (all_written ts) (5 ∷ []) ns)
      ∙ all_unwritten ts (5 ∷ ns) [] (cur ∷ outer)
      ∙ ap (λ z. unwritten ns a_kind (body z ∷ cur) outer) (turned_onto ts [])

  all_unwritten : (ts : Tokens) (ns : List ℕ) (cur : List Token) (outer : List (List Token)) → unwritten (all_written ts ++ ns) a_kind cur outer ≡ unwritten ns a_kind (onto ts cur) outer
  all_unwritten none ns cur outer = refl
  all_unwritten (more t ts) ns cur outer =
      ap (λ z. unwritten z a_kind cur outer) (append_assoc (written t) (all_written ts) ns)
      ∙ token_unwritten t (all_written ts ++ ns) cur outer
      ∙ all_unwritten ts ns (t ∷ cur) outer

read_back : (ts : Tokens) → unwritten (all_written ts) a_kind [] [] ≡ ts
unfolding unwritten turned
read_back ts =
    ap (λ z. unwritten z a_kind [] []) (sym (append-nil (all_written ts)))
    ∙ all_unwritten ts [] [] []
    ∙ turned_onto ts []

pub reads_back : ReadsBack
reads_back a b e = sym (read_back a) ∙ ap (λ z. unwritten z a_kind [] []) e ∙ read_back b
