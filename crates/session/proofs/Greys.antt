-- Every dot of a page is a byte: no step paints with a grey of 256 or more.
use Rattle.std.proofs.Common.{◌≡◌, ℕ, zero, suc, ◌<◌, Bool, true, cond, eqb, ltb, leb, List, [], ◌∷◌, ◌++◌, length, get_or, sym, refl, subst, arith}
use Rattle.std.proofs.lemmas.Bool.{ltb-true, lt-ltb, cond_both, and_from}
use Rattle.tokens.specs.Token.{Token, number, does, name, quoted, body, Tokens, none, more, Operator, adds, takes, multiplies, divides, is_less, copies, drops, swaps, defines, repeats, when, moves, lines, fills, clips_by, greys, shifts, scales, keeps, back, shows}
use Rattle.path.specs.Path.{Ring, Paint}
use Rattle.raster.specs.Coverage.{covers, dot_on, row, rows}
use Rattle.machine.specs.Machine.{Value, amount, code, label, Manner, Frame, State, Went, on, ends, push, push_number, with_one, with_two, with_code, enter, go_to, line_to, bind, top_two, top_one, back_to, operate, found, call, run_token, advance, step_in, step, go_on, at_end, run, begin}
use Rattle.machine.specs.Laws.{state_of}
use Rattle.session.specs.Promise.{all_below}
use Rattle.session.proofs.Below.{below_append}

unfoldable Bytes : List Paint → Type 0
Bytes [] = Unit {0}
Bytes (p ∷ ps) = (p.grey < 256) × Bytes ps

unfoldable AllBytes : List (List Paint) → Type 0
AllBytes [] = Unit {0}
AllBytes (ps ∷ gs) = Bytes ps × AllBytes gs

unfoldable KeptBytes : List Manner → Type 0
KeptBytes [] = Unit {0}
KeptBytes (m ∷ ms) = (m.grey < 256) × KeptBytes ms

-- all greys of a state, those kept and those painted, are bytes
record Safe (s : State) : Type 0 where
  grey : s.manner.grey < 256
  kept : KeptBytes s.saved
  painted : Bytes s.paints
  shown : AllBytes s.pages

record GoesSafe (w : Went) : Type 0 where
  safe : Safe (state_of w)

bytes_append : (ps qs : List Paint) → Bytes ps → Bytes qs → Bytes (ps ++ qs)
unfolding Bytes
bytes_append [] qs h k = k
bytes_append (p ∷ ps) qs h k = (h.0, bytes_append ps qs h.1 k)

all_append : (gs hs : List (List Paint)) → AllBytes gs → AllBytes hs → AllBytes (gs ++ hs)
unfolding AllBytes
all_append [] hs h k = k
all_append (g ∷ gs) hs h k = (h.0, all_append gs hs h.1 k)

-- a step that changes none of these
same : {s t : State} → Safe s → t.manner.grey ≡ s.manner.grey → t.saved ≡ s.saved → t.paints ≡ s.paints → t.pages ≡ s.pages → Safe t
same h a b c d = record { grey = let k = h.grey in omega arith; kept = subst KeptBytes (sym b) h.kept; painted = subst Bytes (sym c) h.painted; shown = subst AllBytes (sym d) h.shown }

stops : (e : ℕ) {s : State} → Safe s → GoesSafe (ends e s)
unfolding state_of
stops e h = record { safe = h }

goes : {s : State} → Safe s → GoesSafe (on s)
unfolding state_of
goes h = record { safe = h }

-- a step that changes none of these, whichever way its tests go
kept_all : {s : State} → Safe s → (w : Went) → (state_of w).manner.grey ≡ s.manner.grey → (state_of w).saved ≡ s.saved → (state_of w).paints ≡ s.paints → (state_of w).pages ≡ s.pages → GoesSafe w
kept_all h w a b c d = record { safe = same h a b c d }

either : (b : Bool) (v w : Went) → GoesSafe v → GoesSafe w → GoesSafe (cond b v w)
either b v w h k = cond_both b v w GoesSafe (λ _. h) (λ _. k)

one : {s : State} → Safe s → (vs : List Value) {f : ℕ → List Value → Went} → ((n : ℕ) (us : List Value) → GoesSafe (f n us)) → GoesSafe (with_one s vs f)
unfolding with_one
one h [] k = stops 1 h
one h (amount n ∷ vs) k = k n vs
one h (code ts ∷ vs) k = stops 2 h
one h (label l ∷ vs) k = stops 2 h

two : {s : State} → Safe s → {f : ℕ → ℕ → List Value → Went} → ((a b : ℕ) (us : List Value) → GoesSafe (f a b us)) → GoesSafe (with_two s f)
unfolding with_two
two {s} h k = one h s.stack (λ b vs. one h vs (λ a us. k a b us))

coded : {s : State} → Safe s → (vs : List Value) {f : Tokens → List Value → Went} → ((ts : Tokens) (us : List Value) → GoesSafe (f ts us)) → GoesSafe (with_code s vs f)
unfolding with_code
coded h [] k = stops 1 h
coded h (amount n ∷ vs) k = stops 2 h
coded h (code ts ∷ vs) k = k ts vs
coded h (label l ∷ vs) k = stops 2 h

top : {s : State} → Safe s → (vs : List Value) {f : Value → List Value → Went} → ((a : Value) (us : List Value) → GoesSafe (f a us)) → GoesSafe (top_one s vs f)
unfolding top_one
top h [] k = stops 1 h
top h (a ∷ vs) k = k a vs

tops : {s : State} → Safe s → (vs : List Value) {f : Value → Value → List Value → Went} → ((a b : Value) (us : List Value) → GoesSafe (f a b us)) → GoesSafe (top_two s vs f)
unfolding top_two
tops h [] k = stops 1 h
tops h (b ∷ []) k = stops 1 h
tops h (b ∷ (a ∷ vs)) k = k a b vs

pushed : {s : State} → Safe s → (vs : List Value) (v : Value) → GoesSafe (push s vs v)
pushed h vs v = either (ltb (length vs) 256) _ _ (goes (same h refl refl refl refl)) (stops 7 h)

counted : {s : State} → Safe s → (vs : List Value) (n : ℕ) → GoesSafe (push_number s vs n)
counted h vs n = either (ltb n 2147483648) _ _ (pushed h vs (amount n)) (stops 3 h)

entered : {s : State} → Safe s → (ts : Tokens) (n : ℕ) → GoesSafe (enter s ts n)
entered {s} h ts n = either (ltb (length s.frames) 64) _ _ (goes (same h refl refl refl refl)) (stops 7 h)

lined : {s : State} → Safe s → (a b : ℕ) (vs : List Value) (r : Ring) → GoesSafe (line_to s a b vs r)
unfolding line_to state_of
lined h a b vs [] = stops 5 h
lined h a b vs (q ∷ qs) = kept_all h _ (grind arith) (grind arith) (grind arith) (grind arith)

bound : {s : State} → Safe s → (vs : List Value) → GoesSafe (bind s vs)
unfolding bind
bound h [] = stops 1 h
bound h (v ∷ []) = stops 1 h
bound h (v ∷ (label k ∷ vs)) = goes (same h refl refl refl refl)
bound h (v ∷ (amount n ∷ vs)) = stops 2 h
bound h (v ∷ (code ts ∷ vs)) = stops 2 h

returned : {s : State} → Safe s → (ms : List Manner) → KeptBytes ms → GoesSafe (back_to s ms)
unfolding back_to KeptBytes state_of
returned h [] k = stops 6 h
returned h (m ∷ ms) k = goes (record { grey = k.0; kept = k.1; painted = h.painted; shown = h.shown })

operated : {s : State} → Safe s → (o : Operator) → GoesSafe (operate s o)
unfolding operate go_to state_of Bytes AllBytes KeptBytes
operated h adds = two h (λ a b vs. counted h vs _)
operated h takes = two h (λ a b vs. either (leb b a) _ _ (counted h vs _) (stops 3 h))
operated h multiplies = two h (λ a b vs. counted h vs _)
operated h divides = two h (λ a b vs. either (eqb b 0) _ _ (stops 3 h) (counted h vs _))
operated h is_less = two h (λ a b vs. counted h vs _)
operated {s} h copies = top h s.stack (λ a vs. pushed h (a ∷ vs) a)
operated {s} h drops = top h s.stack (λ a vs. goes (same h refl refl refl refl))
operated {s} h swaps = tops h s.stack (λ a b vs. goes (same h refl refl refl refl))
operated {s} h defines = bound h s.stack
operated {s} h repeats = coded h s.stack (λ ts vs. one h vs (λ n us. entered (same h refl refl refl refl) ts n))
operated {s} h when = coded h s.stack (λ ts vs. one h vs (λ n us. entered (same h refl refl refl refl) ts _))
operated h moves = two h (λ a b vs. kept_all h _ (grind arith) (grind arith) (grind arith) (grind arith))
operated {s} h lines = two h (λ a b vs. lined h a b vs s.ring)
operated {s} h fills = goes (record { grey = h.grey; kept = h.kept; painted = bytes_append s.paints _ h.painted (h.grey, tt); shown = h.shown })
operated h clips_by = kept_all h _ (grind arith) (grind arith) (grind arith) (grind arith)
operated {s} h greys =
    one h s.stack (λ n vs. cond_both (ltb n 256) _ _ GoesSafe (λ e. goes (record { grey = ltb-true n 256 e; kept = h.kept; painted = h.painted; shown = h.shown })) (λ _. stops 3 h))
operated h shifts = two h (λ a b vs. kept_all h _ (grind arith) (grind arith) (grind arith) (grind arith))
operated {s} h scales = one h s.stack (λ n vs. kept_all h _ (grind arith) (grind arith) (grind arith) (grind arith))
operated {s} h keeps = either (ltb (length s.saved) 16) _ _ (goes (record { grey = h.grey; kept = (h.grey, h.kept); painted = h.painted; shown = h.shown })) (stops 7 h)
operated {s} h back = returned h s.saved h.kept
operated {s} h shows = goes (record { grey = h.grey; kept = h.kept; painted = tt; shown = all_append s.pages _ h.shown (h.painted, tt) })

called : {s : State} → Safe s → (vs : List Value) → GoesSafe (call s vs)
unfolding call
called h [] = stops 4 h
called {s} h (amount n ∷ vs) = pushed h s.stack (amount n)
called h (code ts ∷ vs) = entered h ts 1
called {s} h (label k ∷ vs) = pushed h s.stack (label k)

token_run : {s : State} → Safe s → (t : Token) → GoesSafe (run_token s t)
unfolding run_token
token_run {s} h (number n) = pushed h s.stack (amount n)
token_run h (does k) = operated h k
token_run {s} h (name k) = called h (found s.names k [])
token_run {s} h (quoted k) = pushed h s.stack (label k)
token_run {s} h (body ts) = pushed h s.stack (code ts)

advanced : {s : State} → Safe s → (ts : Tokens) (n : ℕ) (w : Tokens) (fs : List Frame) → GoesSafe (advance s ts n w fs)
unfolding advance
advanced h (more t ts) n w fs = token_run (same h refl refl refl refl) t
advanced h none (suc n) w fs = goes (same h refl refl refl refl)
advanced h none zero w fs = goes (same h refl refl refl refl)

stepped : {s : State} → Safe s → (fs : List Frame) → GoesSafe (step_in s fs)
unfolding step_in
stepped h [] = stops 0 h
stepped h (f ∷ fs) = advanced h f.rest f.again f.whole fs

ended : {s : State} → Safe s → (fs : List Frame) → GoesSafe (at_end fs s)
unfolding at_end
ended h [] = stops 0 h
ended h (f ∷ fs) = stops 8 h

goes_on : (w : Went) (f : State → Went) → GoesSafe w → ((t : State) → Safe t → GoesSafe (f t)) → GoesSafe (go_on w f)
unfolding go_on state_of
goes_on (on t) f h k = k t h.safe
goes_on (ends e t) f h k = h

ran : (n : ℕ) (s : State) → Safe s → GoesSafe (run n s)
unfolding run
ran zero s h = ended h s.frames
ran (suc n) s h = goes_on (step s) (run n) (stepped h s.frames) (λ t k. ran n t k)

page_at : (gs : List (List Paint)) (p : ℕ) → AllBytes gs → Bytes (get_or gs p [])
unfolding AllBytes Bytes
page_at [] p h = tt
page_at (g ∷ gs) zero h = h.0
page_at (g ∷ gs) (suc p) h = page_at gs p h.1

dot_below : (ps : List Paint) (x y g : ℕ) → Bytes ps → g < 256 → dot_on ps x y g < 256
unfolding Bytes dot_on
dot_below [] x y g h k = k
dot_below (p ∷ ps) x y g h k = dot_below ps x y _ h.1 (cond_both (covers p x y) p.grey g (λ z. z < 256) (λ _. h.0) (λ _. k))

row_below : (ps : List Paint) (w y : ℕ) → Bytes ps → all_below 256 (row ps w y) ≡ true
unfolding row all_below
row_below ps zero y h = refl
row_below ps (suc w) y h = below_append 256 (row ps w y) _ (row_below ps w y h) (and_from _ _ (lt-ltb _ _ (dot_below ps w y 255 h (omega arith))) refl)

rows_below : (ps : List Paint) (w y n : ℕ) → Bytes ps → all_below 256 (rows ps w y n) ≡ true
unfolding rows all_below
rows_below ps w y zero h = refl
rows_below ps w y (suc n) h = below_append 256 (row ps w y) _ (row_below ps w y h) (rows_below ps w (suc y) n h)

-- the rows of any page of a job are bytes
pub page_rows_below : (n : ℕ) (ts : Tokens) (p w y m : ℕ) → all_below 256 (rows (get_or (state_of (run n (begin ts))).pages p []) w y m) ≡ true
unfolding Bytes AllBytes KeptBytes
page_rows_below n ts p w y m =
    let h = ran n (begin ts) (record { grey = omega arith; kept = tt; painted = tt; shown = tt }) in
    rows_below _ w y m (page_at _ p h.safe.shown)
