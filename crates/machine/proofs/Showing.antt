-- Every step leaves the pages that were shown as they are and at most adds one after them.
use Rattle.std.proofs.Common.{◌≡◌, ℕ, zero, suc, ◌+◌, List, [], ◌∷◌, ◌++◌, sym, refl, ap, ◌∙◌, subst, suc-add, zero-add, arith}
use Rattle.std.proofs.lemmas.List.{append-nil, append_assoc}
use Rattle.tokens.specs.Token.{Token, number, does, name, quoted, body, Tokens, none, more, Operator, adds, takes, multiplies, divides, is_less, copies, drops, swaps, defines, repeats, when, moves, lines, fills, clips_by, greys, shifts, scales, keeps, back, shows}
use Rattle.path.specs.Path.{Ring, Paint}
use Rattle.machine.specs.Machine.{Value, amount, code, label, Manner, Frame, State, Went, on, ends, push, push_number, with_stack, with_one, with_two, with_code, enter, go_to, line_to, bind, top_two, top_one, back_to, operate, found, call, run_token, with_frames, advance, step_in, step, go_on, at_end, run}
use Rattle.machine.specs.Laws.{state_of, begins_with, ShownStays}

-- where a step went, the pages begin with these
record Keeps (pages : List (List Paint)) (w : Went) : Type 0 where
  begins : begins_with (state_of w).pages pages

same : {g : List (List Paint)} (w : Went) → (state_of w).pages ≡ g → Keeps g w
same {g} w e = record { begins = ([], e ∙ sym (append-nil g)) }

one : (s : State) (vs : List Value) {f : ℕ → List Value → Went} → ((n : ℕ) (us : List Value) → Keeps s.pages (f n us)) → Keeps s.pages (with_one s vs f)
unfolding with_one state_of
one s [] h = same _ refl
one s (amount n ∷ vs) h = h n vs
one s (code ts ∷ vs) h = same _ refl
one s (label k ∷ vs) h = same _ refl

two : (s : State) {f : ℕ → ℕ → List Value → Went} → ((a b : ℕ) (us : List Value) → Keeps s.pages (f a b us)) → Keeps s.pages (with_two s f)
unfolding with_two
two s h = one s s.stack (λ b vs. one s vs (λ a us. h a b us))

coded : (s : State) (vs : List Value) {f : Tokens → List Value → Went} → ((ts : Tokens) (us : List Value) → Keeps s.pages (f ts us)) → Keeps s.pages (with_code s vs f)
unfolding with_code state_of
coded s [] h = same _ refl
coded s (amount n ∷ vs) h = same _ refl
coded s (code ts ∷ vs) h = h ts vs
coded s (label k ∷ vs) h = same _ refl

top : (s : State) (vs : List Value) {f : Value → List Value → Went} → ((a : Value) (us : List Value) → Keeps s.pages (f a us)) → Keeps s.pages (top_one s vs f)
unfolding top_one state_of
top s [] h = same _ refl
top s (a ∷ vs) h = h a vs

tops : (s : State) (vs : List Value) {f : Value → Value → List Value → Went} → ((a b : Value) (us : List Value) → Keeps s.pages (f a b us)) → Keeps s.pages (top_two s vs f)
unfolding top_two state_of
tops s [] h = same _ refl
tops s (b ∷ []) h = same _ refl
tops s (b ∷ (a ∷ vs)) h = h a b vs

pushed : (s : State) (vs : List Value) (v : Value) → Keeps s.pages (push s vs v)
unfolding state_of
pushed s vs v = same _ (grind arith)

counted : (s : State) (vs : List Value) (n : ℕ) → Keeps s.pages (push_number s vs n)
unfolding state_of
counted s vs n = same _ (grind arith)

entered : (s : State) (ts : Tokens) (n : ℕ) → Keeps s.pages (enter s ts n)
unfolding state_of
entered s ts n = same _ (grind arith)

lined : (s : State) (a b : ℕ) (vs : List Value) (r : Ring) → Keeps s.pages (line_to s a b vs r)
unfolding line_to state_of
lined s a b vs [] = same _ refl
lined s a b vs (q ∷ qs) = same _ (grind arith)

bound : (s : State) (vs : List Value) → Keeps s.pages (bind s vs)
unfolding bind state_of
bound s [] = same _ refl
bound s (v ∷ []) = same _ refl
bound s (v ∷ (label k ∷ vs)) = same _ refl
bound s (v ∷ (amount n ∷ vs)) = same _ refl
bound s (v ∷ (code ts ∷ vs)) = same _ refl

returned : (s : State) (ms : List Manner) → Keeps s.pages (back_to s ms)
unfolding back_to state_of
returned s [] = same _ refl
returned s (m ∷ ms) = same _ refl

operated : (s : State) (o : Operator) → Keeps s.pages (operate s o)
unfolding operate go_to state_of
operated s adds = two s (λ a b vs. counted s vs _)
operated s takes = two s (λ a b vs. same _ (grind arith))
operated s multiplies = two s (λ a b vs. counted s vs _)
operated s divides = two s (λ a b vs. same _ (grind arith))
operated s is_less = two s (λ a b vs. counted s vs _)
operated s copies = top s s.stack (λ a vs. pushed s (a ∷ vs) a)
operated s drops = top s s.stack (λ a vs. same _ refl)
operated s swaps = tops s s.stack (λ a b vs. same _ refl)
operated s defines = bound s s.stack
operated s repeats = coded s s.stack (λ ts vs. one s vs (λ n us. entered (with_stack s us) ts n))
operated s when = coded s s.stack (λ ts vs. one s vs (λ n us. entered (with_stack s us) ts _))
operated s moves = two s (λ a b vs. same _ (grind arith))
operated s lines = two s (λ a b vs. lined s a b vs s.ring)
operated s fills = same _ refl
operated s clips_by = same _ (grind arith)
operated s greys = one s s.stack (λ n vs. same _ (grind arith))
operated s shifts = two s (λ a b vs. same _ (grind arith))
operated s scales = one s s.stack (λ n vs. same _ (grind arith))
operated s keeps = same _ (grind arith)
operated s back = returned s s.saved
operated s shows = record { begins = (s.paints ∷ [], refl) }

called : (s : State) (vs : List Value) → Keeps s.pages (call s vs)
unfolding call state_of
called s [] = same _ refl
called s (amount n ∷ vs) = pushed s s.stack (amount n)
called s (code ts ∷ vs) = entered s ts 1
called s (label k ∷ vs) = pushed s s.stack (label k)

token_run : (s : State) (t : Token) → Keeps s.pages (run_token s t)
unfolding run_token
token_run s (number n) = pushed s s.stack (amount n)
token_run s (does k) = operated s k
token_run s (name k) = called s (found s.names k [])
token_run s (quoted k) = pushed s s.stack (label k)
token_run s (body ts) = pushed s s.stack (code ts)

advanced : (s : State) (ts : Tokens) (n : ℕ) (w : Tokens) (fs : List Frame) → Keeps s.pages (advance s ts n w fs)
unfolding advance state_of
advanced s (more t ts) n w fs = token_run (with_frames s (record { rest = ts; again = n; whole = w } ∷ fs)) t
advanced s none (suc n) w fs = same _ refl
advanced s none zero w fs = same _ refl

stepped : (s : State) (fs : List Frame) → Keeps s.pages (step_in s fs)
unfolding step_in state_of
stepped s [] = same _ refl
stepped s (f ∷ fs) = advanced s f.rest f.again f.whole fs

ended : (s : State) (fs : List Frame) → Keeps s.pages (at_end fs s)
unfolding at_end state_of
ended s [] = same _ refl
ended s (f ∷ fs) = same _ refl

-- pages that begin with pages that begin with these
further : {g h : List (List Paint)} {w : Went} → begins_with h g → Keeps h w → Keeps g w
further {g} b k = record { begins = (b.0 ++ k.begins.0, k.begins.1 ∙ ap (λ z. z ++ k.begins.0) b.1 ∙ append_assoc g b.0 k.begins.0) }

goes : {g : List (List Paint)} (w : Went) (f : State → Went) → Keeps g w → ((t : State) → Keeps t.pages (f t)) → Keeps g (go_on w f)
unfolding go_on state_of
goes (on t) f k h = further k.begins (h t)
goes (ends e t) f k h = k

ran : (n : ℕ) (s : State) → Keeps s.pages (run n s)
unfolding run
ran zero s = ended s s.frames
ran (suc n) s = goes (step s) (run n) (stepped s s.frames) (λ t. ran n t)

pub shown_stays : ShownStays
shown_stays s n = (ran n s).begins

-- a step at which a run ends is its end with more steps too
goes_alike : (w : Went) (f g : State → Went) → ((t : State) → Keeps (state_of (f t)).pages (g t)) → Keeps (state_of (go_on w f)).pages (go_on w g)
unfolding go_on
goes_alike (on t) f g h = h t
goes_alike (ends e t) f g h = same _ refl

pages_at_end : (s : State) (fs : List Frame) → s.pages ≡ (state_of (at_end fs s)).pages
unfolding at_end state_of
pages_at_end s [] = refl
pages_at_end s (f ∷ fs) = refl

ran_longer : (n m : ℕ) (s : State) → Keeps (state_of (run n s)).pages (run (n + m) s)
unfolding run
ran_longer zero m s =
    subst (λ g. Keeps g (run (zero + m) s)) (pages_at_end s s.frames)
    (subst (λ k. Keeps s.pages (run k s)) (sym (zero-add m)) (ran m s))
ran_longer (suc n) m s =
    subst (λ k. Keeps (state_of (run (suc n) s)).pages (run k s)) (sym (suc-add n m))
    (goes_alike (step s) (run n) (run (n + m)) (λ t. ran_longer n m t))

-- the pages of a run of so many steps are the first pages of a longer one
pub longer_run : (n m : ℕ) (s : State) → begins_with (state_of (run (n + m) s)).pages (state_of (run n s)).pages
longer_run n m s = (ran_longer n m s).begins
