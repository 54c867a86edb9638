-- A step of the whole machine ends with a fault's number; so a stage's ends with an operator's only where the stage can't do that operator.
use Rattle.std.proofs.Common.{◌≡◌, ℕ, zero, suc, ◌<◌, ◌≤◌, Bool, false, List, [], ◌∷◌, Ok, Err, Result, sym, ap, ◌∙◌, subst, lit<, inl, inr, arith}
use Rattle.std.proofs.lemmas.Bool.{cond-true, cond-false, cases_Bool}
use Rattle.path.specs.Path.{Ring}
use Rattle.path.specs.declared.builder.Path.{Path}
use Rattle.tokens.specs.Token.{Token, number, does, name, quoted, body, Tokens, none, more, Operator, number_of, adds, takes, multiplies, divides, is_less, copies, drops, swaps, defines, repeats, when, moves, lines, fills, clips_by, greys, shifts, scales, keeps, back, shows}
use Rattle.tokens.specs.Stored.{operator_of}
use Rattle.tokens.specs.declared.stage.Stage as stage
use Rattle.machine.specs.Machine.{Value, amount, code, label, Manner, Frame, State, Went, on, ends, push, push_number, with_stack, with_one, with_two, with_code, enter, go_to, line_to, bind, top_two, top_one, back_to, operate, found, call, run_token, with_frames, advance, step_in, step, go_on, at_end, run}
use Rattle.machine.specs.Laws.{end_of, FaultsAreEight}
use Rattle.machine.specs.Numbers.{unsupported}
use Rattle.machine.specs.Stage.{operate_of, run_token_of, advance_of, step_by_frame, step_of}
use Rattle.machine.specs.Abstraction.{no_past, after, OnlyOutside}
use Rattle.machine.specs.declared.event.Fault.{Fault}
use Rattle.machine.specs.declared.event.Event.{Event}
use Rattle.machine.specs.declared.event.Event.TheVariants.{On, Painted, Shown, Finished, Unsupported}
use Rattle.machine.specs.declared.stage.Clipping.{Ghosts}
use Rattle.machine.specs.declared.state.Machine.{Machine}

record Small (w : Went) : Type 0 where
  small : end_of w < 8

-- at a fault, or going on
plain : (w : Went) → end_of w < 8 → Small w
plain w h = record { small = h }

one : (s : State) (vs : List Value) {f : ℕ → List Value → Went} → ((n : ℕ) (us : List Value) → Small (f n us)) → Small (with_one s vs f)
unfolding with_one end_of
one s [] h = plain _ (lit< tt)
one s (amount n ∷ vs) h = h n vs
one s (code ts ∷ vs) h = plain _ (lit< tt)
one s (label k ∷ vs) h = plain _ (lit< tt)

two : (s : State) {f : ℕ → ℕ → List Value → Went} → ((a b : ℕ) (us : List Value) → Small (f a b us)) → Small (with_two s f)
unfolding with_two
two s h = one s s.stack (λ b vs. one s vs (λ a us. h a b us))

coded : (s : State) (vs : List Value) {f : Tokens → List Value → Went} → ((ts : Tokens) (us : List Value) → Small (f ts us)) → Small (with_code s vs f)
unfolding with_code end_of
coded s [] h = plain _ (lit< tt)
coded s (amount n ∷ vs) h = plain _ (lit< tt)
coded s (code ts ∷ vs) h = h ts vs
coded s (label k ∷ vs) h = plain _ (lit< tt)

top : (s : State) (vs : List Value) {f : Value → List Value → Went} → ((a : Value) (us : List Value) → Small (f a us)) → Small (top_one s vs f)
unfolding top_one end_of
top s [] h = plain _ (lit< tt)
top s (a ∷ vs) h = h a vs

tops : (s : State) (vs : List Value) {f : Value → Value → List Value → Went} → ((a b : Value) (us : List Value) → Small (f a b us)) → Small (top_two s vs f)
unfolding top_two end_of
tops s [] h = plain _ (lit< tt)
tops s (b ∷ []) h = plain _ (lit< tt)
tops s (b ∷ (a ∷ vs)) h = h a b vs

pushed : (s : State) (vs : List Value) (v : Value) → Small (push s vs v)
unfolding end_of
pushed s vs v = plain _ (grind arith)

counted : (s : State) (vs : List Value) (n : ℕ) → Small (push_number s vs n)
unfolding end_of
counted s vs n = plain _ (grind arith)

entered : (s : State) (ts : Tokens) (n : ℕ) → Small (enter s ts n)
unfolding end_of
entered s ts n = plain _ (grind arith)

lined : (s : State) (a b : ℕ) (vs : List Value) (r : Ring) → Small (line_to s a b vs r)
unfolding line_to end_of
lined s a b vs [] = plain _ (lit< tt)
lined s a b vs (q ∷ qs) = plain _ (grind arith)

bound : (s : State) (vs : List Value) → Small (bind s vs)
unfolding bind end_of
bound s [] = plain _ (lit< tt)
bound s (v ∷ []) = plain _ (lit< tt)
bound s (v ∷ (label k ∷ vs)) = plain _ (lit< tt)
bound s (v ∷ (amount n ∷ vs)) = plain _ (lit< tt)
bound s (v ∷ (code ts ∷ vs)) = plain _ (lit< tt)

returned : (s : State) (ms : List Manner) → Small (back_to s ms)
unfolding back_to end_of
returned s [] = plain _ (lit< tt)
returned s (m ∷ ms) = plain _ (lit< tt)

operated : (s : State) (o : Operator) → Small (operate s o)
unfolding operate go_to end_of
operated s adds = two s (λ a b vs. counted s vs _)
operated s takes = two s (λ a b vs. plain _ (grind arith))
operated s multiplies = two s (λ a b vs. counted s vs _)
operated s divides = two s (λ a b vs. plain _ (grind arith))
operated s is_less = two s (λ a b vs. counted s vs _)
operated s copies = top s s.stack (λ a vs. pushed s (a ∷ vs) a)
operated s drops = top s s.stack (λ a vs. plain _ (lit< tt))
operated s swaps = tops s s.stack (λ a b vs. plain _ (lit< tt))
operated s defines = bound s s.stack
operated s repeats = coded s s.stack (λ ts vs. one s vs (λ n us. entered (with_stack s us) ts n))
operated s when = coded s s.stack (λ ts vs. one s vs (λ n us. entered (with_stack s us) ts _))
operated s moves = two s (λ a b vs. plain _ (grind arith))
operated s lines = two s (λ a b vs. lined s a b vs s.ring)
operated s fills = plain _ (lit< tt)
operated s clips_by = plain _ (grind arith)
operated s greys = one s s.stack (λ n vs. plain _ (grind arith))
operated s shifts = two s (λ a b vs. plain _ (grind arith))
operated s scales = one s s.stack (λ n vs. plain _ (grind arith))
operated s keeps = plain _ (grind arith)
operated s back = returned s s.saved
operated s shows = plain _ (lit< tt)

called : (s : State) (vs : List Value) → Small (call s vs)
unfolding call end_of
called s [] = plain _ (lit< tt)
called s (amount n ∷ vs) = pushed s s.stack (amount n)
called s (code ts ∷ vs) = entered s ts 1
called s (label k ∷ vs) = pushed s s.stack (label k)

token_run : (s : State) (t : Token) → Small (run_token s t)
unfolding run_token
token_run s (number n) = pushed s s.stack (amount n)
token_run s (does k) = operated s k
token_run s (name k) = called s (found s.names k [])
token_run s (quoted k) = pushed s s.stack (label k)
token_run s (body ts) = pushed s s.stack (code ts)

advanced : (s : State) (ts : Tokens) (n : ℕ) (w : Tokens) (fs : List Frame) → Small (advance s ts n w fs)
unfolding advance end_of
advanced s (more t ts) n w fs = token_run (with_frames s (record { rest = ts; again = n; whole = w } ∷ fs)) t
advanced s none (suc n) w fs = plain _ (lit< tt)
advanced s none zero w fs = plain _ (lit< tt)

stepped : (s : State) (fs : List Frame) → Small (step_in s fs)
unfolding step_in end_of
stepped s [] = plain _ (lit< tt)
stepped s (f ∷ fs) = advanced s f.rest f.again f.whole fs

ended : (s : State) (fs : List Frame) → end_of (at_end fs s) ≤ 8
unfolding at_end end_of
ended s [] = omega arith
ended s (f ∷ fs) = omega arith

goes : (w : Went) (f : State → Went) → Small w → ((t : State) → end_of (f t) ≤ 8) → end_of (go_on w f) ≤ 8
unfolding go_on
goes (on t) f k h = h t
goes (ends e t) f k h = let le = k.small in omega arith

pub faults_are_eight : FaultsAreEight
unfolding run
faults_are_eight zero s = ended s s.frames
faults_are_eight (suc n) s = goes (step s) (run n) (stepped s s.frames) (λ t. faults_are_eight n t)

-- where a step went it ends with an operator's number only if the stage can't do that one
module _ (can : ℕ → Bool) where
  record Beyond (w : Went) : Type 0 where
    outside : (k : Operator) → end_of w ≡ unsupported k → can (number_of k) ≡ false

  inside : (w : Went) → Small w → Beyond w
  inside w h = record { outside = λ k e. (let lt = h.small in absurd (omega arith)) }

  operated_of : (s : State) (o : Operator) → Beyond (operate_of can s o)
  unfolding operate_of end_of
  operated_of s o =
      elim (cases_Bool (can (number_of o))) [
        | inl can_do ↦ inside _ (subst Small (sym (cond-true _ _ _ can_do)) (operated s o))
        | inr can_not ↦
            record {
              outside = λ k e.
                  (let z = sym e ∙ ap end_of (cond-false _ (operate s o) (ends (unsupported o) s) can_not) in
                  let same : number_of k ≡ number_of o = omega arith in
                  ap can same ∙ can_not);
            }
      ]

  token_run_of : (s : State) (t : Token) → Beyond (run_token_of can s t)
  unfolding run_token_of
  token_run_of s (number n) = inside _ (token_run s (number n))
  token_run_of s (does k) = operated_of s k
  token_run_of s (name k) = inside _ (token_run s (name k))
  token_run_of s (quoted k) = inside _ (token_run s (quoted k))
  token_run_of s (body ts) = inside _ (token_run s (body ts))

  advanced_of : (s : State) (f : Frame) (fs : List Frame) (r : Tokens) → Beyond (advance_of can s f fs r)
  unfolding advance_of
  advanced_of s f fs none = inside _ (advanced s none f.again f.whole fs)
  advanced_of s f fs (more t ts) = token_run_of (with_frames s (record { rest = ts; again = f.again; whole = f.whole } ∷ fs)) t

  stepped_of : (s : State) (fs : List Frame) → Beyond (step_by_frame can s fs)
  unfolding step_by_frame end_of
  stepped_of s [] = inside _ (plain _ (lit< tt))
  stepped_of s (f ∷ fs) = advanced_of s f fs f.rest

pub step_outside : (can : ℕ → Bool) (r : Result Event Fault) → {X : Type 0} {G : Ghosts X} {S : stage.Ghosts X} (m : Machine X G S) (p : Path) (s : State) → after r m p no_past ≡ step_of can s → OnlyOutside can r
unfolding end_of
step_outside can (Ok On) m p s e = tt
step_outside can (Ok (Painted n)) m p s e = tt
step_outside can (Ok Shown) m p s e = tt
step_outside can (Ok Finished) m p s e = tt
step_outside can (Ok (Unsupported op)) m p s e = (stepped_of can s s.frames).outside (operator_of op) (sym (ap end_of e))
step_outside can (Err f) m p s e = tt
