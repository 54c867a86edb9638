-- On tokens that a stage can do its machine is the whole machine: nothing that is still to be run is of another stage, in frames, on the stack and by a name.
use Rattle.std.proofs.Common.{◌≡◌, ℕ, zero, suc, ◌+◌, ◌-◌, ◌*◌, ◌/◌, Bool, true, false, cond, eqb, leb, ltb, List, [], ◌∷◌, length, sym, refl, ap, ◌∙◌, subst}
use Rattle.std.proofs.lemmas.Bool.{cond-true}
use Rattle.path.specs.Path.{Ring, points}
use Rattle.tokens.specs.Token.{Token, number, does, name, quoted, body, Tokens, none, more, Operator, number_of, adds, takes, multiplies, divides, is_less, copies, drops, swaps, defines, repeats, when, moves, lines, fills, clips_by, greys, shifts, scales, keeps, back, shows, InRange, AllInRange}
use Rattle.tokens.specs.Stage.{whole}
use Rattle.machine.specs.Machine.{State, Frame, Binding, Manner, Value, amount, code, label, Went, on, ends, with_stack, with_frames, push, push_number, with_one, with_two, with_code, enter, placed, near_enough, go_to, line_to, whole_path, points_in_all, bind, top_one, top_two, back_to, found, rebound, call, operate, run_token, advance, step_in, go_on, run, begin}
use Rattle.machine.specs.Numbers.{unsupported}
use Rattle.machine.specs.Stage.{operate_of, run_token_of, advance_of, step_by_frame, run_of, StagesAreWhole, StepIsWhole, WholeIsWhole}

module _ (can : ℕ → Bool) where
  abbrev Fit : Value → Type 0
  Fit (amount n) = Unit {0}
  Fit (code ts) = AllInRange can ts
  Fit (label k) = Unit {0}

  abbrev AllFit : List Value → Type 0
  AllFit [] = Unit {0}
  AllFit (v ∷ vs) = Fit v × AllFit vs

  abbrev NamesFit : List Binding → Type 0
  NamesFit [] = Unit {0}
  NamesFit (b ∷ bs) = Fit b.means × NamesFit bs

  abbrev FramesFit : List Frame → Type 0
  FramesFit [] = Unit {0}
  FramesFit (f ∷ fs) = AllInRange can f.rest × AllInRange can f.whole × FramesFit fs

  record Staged (s : State) : Type 0 where
    stack : AllFit s.stack
    names : NamesFit s.names
    frames : FramesFit s.frames

  -- where a step went nothing is of another stage
  data Still : Went → Type 0 where
    going : {s : State} → Staged s → Still (on s)
    over : {e : ℕ} {s : State} → Still (ends e s)

  still_cond : (b : Bool) {x y : Went} → Still x → Still y → Still (cond b x y)
  still_cond true hx hy = hx
  still_cond false hx hy = hy

  still_push : (s : State) (vs : List Value) (v : Value) → Staged s → AllFit vs → Fit v → Still (push s vs v)
  still_push s vs v h fit one = still_cond (ltb (length vs) 256) (going (record { stack = (one, fit); names = h.names; frames = h.frames })) over

  still_number : (s : State) (vs : List Value) (n : ℕ) → Staged s → AllFit vs → Still (push_number s vs n)
  still_number s vs n h fit = still_cond (ltb n 2147483648) (still_push s vs (amount n) h fit tt) over

  still_one : (s : State) (vs : List Value) (f : ℕ → List Value → Went) → AllFit vs → ((n : ℕ) (us : List Value) → AllFit us → Still (f n us)) → Still (with_one s vs f)
  unfolding with_one
  still_one s [] f fit h = over
  still_one s (amount n ∷ vs) f fit h = h n vs fit.1
  still_one s (code ts ∷ vs) f fit h = over
  still_one s (label k ∷ vs) f fit h = over

  still_two : (s : State) (f : ℕ → ℕ → List Value → Went) → AllFit s.stack → ((a b : ℕ) (us : List Value) → AllFit us → Still (f a b us)) → Still (with_two s f)
  unfolding with_two
  still_two s f fit h = still_one s s.stack _ fit (λ b vs left. still_one s vs _ left (λ a us rest. h a b us rest))

  still_code : (s : State) (vs : List Value) (f : Tokens → List Value → Went) → AllFit vs → ((ts : Tokens) (us : List Value) → AllInRange can ts → AllFit us → Still (f ts us)) → Still (with_code s vs f)
  unfolding with_code
  still_code s [] f fit h = over
  still_code s (amount n ∷ vs) f fit h = over
  still_code s (code ts ∷ vs) f fit h = h ts vs fit.0 fit.1
  still_code s (label k ∷ vs) f fit h = over

  still_enter : (s : State) (ts : Tokens) (n : ℕ) → Staged s → AllInRange can ts → Still (enter s ts n)
  still_enter s ts n h fit = still_cond (ltb (length s.frames) 64) (going (record { stack = h.stack; names = h.names; frames = (tt, fit, h.frames) })) over

  -- whether the path has room for a point
  abbrev room : State → Bool
  room s = ltb (points s.rings + length s.ring) 1024

  left : (s : State) (vs : List Value) → Staged s → AllFit vs → Staged (with_stack s vs)
  left s vs h fit = record { stack = fit; names = h.names; frames = h.frames }

  still_go : (s : State) (a b : ℕ) (vs : List Value) → Staged s → AllFit vs → Still (go_to s a b vs)
  unfolding go_to
  still_go s a b vs h fit = still_cond (near_enough (placed s.manner a b)) (still_cond (room s) (going (record { stack = fit; names = h.names; frames = h.frames })) over) over

  still_line : (s : State) (a b : ℕ) (vs : List Value) (r : Ring) → Staged s → AllFit vs → Still (line_to s a b vs r)
  unfolding line_to
  still_line s a b vs [] h fit = over
  still_line s a b vs (q ∷ qs) h fit = still_cond (near_enough (placed s.manner a b)) (still_cond (room s) (going (record { stack = fit; names = h.names; frames = h.frames })) over) over

  names_cond : (b : Bool) (xs ys : List Binding) → NamesFit xs → NamesFit ys → NamesFit (cond b xs ys)
  names_cond true xs ys hx hy = hx
  names_cond false xs ys hx hy = hy

  names_more : (bs : List Binding) (k : ℕ) (v : Value) → NamesFit bs → Fit v → NamesFit (rebound bs k v)
  unfolding rebound
  names_more [] k v fit one = (one, tt)
  names_more (b ∷ bs) k v fit one = names_cond (eqb b.called k) _ _ (one, fit.1) (fit.0, names_more bs k v fit.1 one)

  all_cond : (b : Bool) (xs ys : List Value) → AllFit xs → AllFit ys → AllFit (cond b xs ys)
  all_cond true xs ys hx hy = hx
  all_cond false xs ys hx hy = hy

  found_fit : (bs : List Binding) (k : ℕ) → NamesFit bs → AllFit (found bs k [])
  unfolding found
  found_fit [] k fit = tt
  found_fit (b ∷ bs) k fit = all_cond (eqb b.called k) _ _ (fit.0, tt) (found_fit bs k fit.1)

  still_bind : (s : State) (vs : List Value) → Staged s → AllFit vs → Still (bind s vs)
  unfolding bind
  still_bind s [] h fit = over
  still_bind s (v ∷ []) h fit = over
  still_bind s (v ∷ (label k ∷ vs)) h fit = going (record { stack = fit.1.1; names = names_more s.names k v h.names fit.0; frames = h.frames })
  still_bind s (v ∷ (amount n ∷ vs)) h fit = over
  still_bind s (v ∷ (code ts ∷ vs)) h fit = over

  still_swap : (s : State) (vs : List Value) → Staged s → AllFit vs → Still (top_two s vs (λ a b us. on (with_stack s (a ∷ (b ∷ us)))))
  unfolding top_two
  still_swap s [] h fit = over
  still_swap s (b ∷ []) h fit = over
  still_swap s (b ∷ (a ∷ vs)) h fit = going (left s (a ∷ (b ∷ vs)) h (fit.1.0, (fit.0, fit.1.1)))

  still_copy : (s : State) (vs : List Value) → Staged s → AllFit vs → Still (top_one s vs (λ a us. push s (a ∷ us) a))
  unfolding top_one
  still_copy s [] h fit = over
  still_copy s (a ∷ vs) h fit = still_push s (a ∷ vs) a h fit fit.0

  still_drop : (s : State) (vs : List Value) → Staged s → AllFit vs → Still (top_one s vs (λ a us. on (with_stack s us)))
  unfolding top_one
  still_drop s [] h fit = over
  still_drop s (a ∷ vs) h fit = going (left s vs h fit.1)

  still_back : (s : State) (ms : List Manner) → Staged s → Still (back_to s ms)
  unfolding back_to
  still_back s [] h = over
  still_back s (m ∷ ms) h = going (record { stack = h.stack; names = h.names; frames = h.frames })

  -- a change of what is neither on the stack, a name nor a frame
  same_fit : (s t : State) → t.stack ≡ s.stack → t.names ≡ s.names → t.frames ≡ s.frames → Staged s → Staged t
  same_fit s t a b c h =
      record { stack = subst AllFit (sym a) h.stack; names = subst NamesFit (sym b) h.names; frames = subst FramesFit (sym c) h.frames }

  still_operate : (s : State) (k : Operator) → Staged s → Still (operate s k)
  unfolding operate
  still_operate s adds h = still_two s _ h.stack (λ a b vs fit. still_number s vs (a + b) h fit)
  still_operate s takes h = still_two s _ h.stack (λ a b vs fit. still_cond (leb b a) (still_number s vs (a - b) h fit) over)
  still_operate s multiplies h = still_two s _ h.stack (λ a b vs fit. still_number s vs (a * b) h fit)
  still_operate s divides h = still_two s _ h.stack (λ a b vs fit. still_cond (eqb b 0) over (still_number s vs (a / b) h fit))
  still_operate s is_less h = still_two s _ h.stack (λ a b vs fit. still_number s vs (cond (ltb a b) 1 0) h fit)
  still_operate s copies h = still_copy s s.stack h h.stack
  still_operate s drops h = still_drop s s.stack h h.stack
  still_operate s swaps h = still_swap s s.stack h h.stack
  still_operate s defines h = still_bind s s.stack h h.stack
  still_operate s repeats h = still_code s s.stack _ h.stack (λ ts vs one fit. still_one s vs _ fit (λ n us rest. still_enter (with_stack s us) ts n (left s us h rest) one))
  still_operate s when h = still_code s s.stack _ h.stack (λ ts vs one fit. still_one s vs _ fit (λ n us rest. still_enter (with_stack s us) ts (cond (eqb n 0) 0 1) (left s us h rest) one))
  still_operate s moves h = still_two s _ h.stack (λ a b vs fit. still_go s a b vs h fit)
  still_operate s lines h = still_two s _ h.stack (λ a b vs fit. still_line s a b vs s.ring h fit)
  still_operate s fills h = going (same_fit s _ refl refl refl h)
  still_operate s clips_by h = still_cond (leb (1 + points (whole_path s) + (points_in_all s.manner.clips + length s.manner.clips)) 1024) (going (same_fit s _ refl refl refl h)) over
  still_operate s greys h = still_one s s.stack _ h.stack (λ n vs fit. still_cond (ltb n 256) (going (same_fit (with_stack s vs) _ refl refl refl (left s vs h fit))) over)
  still_operate s shifts h = still_two s _ h.stack (λ a b vs fit. still_cond (near_enough (placed s.manner a b)) (going (same_fit (with_stack s vs) _ refl refl refl (left s vs h fit))) over)
  still_operate s scales h = still_one s s.stack _ h.stack (λ n vs fit. still_cond (ltb (s.manner.scale * n / 16) 65536) (going (same_fit (with_stack s vs) _ refl refl refl (left s vs h fit))) over)
  still_operate s keeps h = still_cond (ltb (length s.saved) 16) (going (same_fit s _ refl refl refl h)) over
  still_operate s back h = still_back s s.saved h
  still_operate s shows h = going (same_fit s _ refl refl refl h)

  still_call : (s : State) (vs : List Value) → Staged s → AllFit vs → Still (call s vs)
  unfolding call
  still_call s [] h fit = over
  still_call s (amount n ∷ vs) h fit = still_push s s.stack (amount n) h h.stack tt
  still_call s (code ts ∷ vs) h fit = still_enter s ts 1 h fit.0
  still_call s (label k ∷ vs) h fit = still_push s s.stack (label k) h h.stack tt

  still_token : (s : State) (t : Token) → Staged s → InRange can t → Still (run_token s t)
  unfolding run_token
  still_token s (number n) h fit = still_push s s.stack (amount n) h h.stack tt
  still_token s (does k) h fit = still_operate s k h
  still_token s (name k) h fit = still_call s (found s.names k []) h (found_fit s.names k h.names)
  still_token s (quoted k) h fit = still_push s s.stack (label k) h h.stack tt
  still_token s (body ts) h fit = still_push s s.stack (code ts) h h.stack fit

  still_advance : (s : State) (r : Tokens) (n : ℕ) (w : Tokens) (fs : List Frame) → Staged s → AllInRange can r → AllInRange can w → FramesFit fs → Still (advance s r n w fs)
  unfolding advance
  still_advance s (more t ts) n w fs h a b c = still_token (with_frames s (record { rest = ts; again = n; whole = w } ∷ fs)) t (record { stack = h.stack; names = h.names; frames = (a.1, b, c) }) a.0
  still_advance s none zero w fs h a b c = going (record { stack = h.stack; names = h.names; frames = c })
  still_advance s none (suc n) w fs h a b c = going (record { stack = h.stack; names = h.names; frames = (b, b, c) })

  still_step : (s : State) (fs : List Frame) → Staged s → FramesFit fs → Still (step_in s fs)
  unfolding step_in
  still_step s [] h fit = over
  still_step s (f ∷ fs) h fit = still_advance s f.rest f.again f.whole fs h fit.0 fit.1 fit.2

  same_token : (s : State) (t : Token) → InRange can t → run_token_of can s t ≡ run_token s t
  unfolding run_token_of run_token operate_of
  same_token s (number n) h = refl
  same_token s (does k) h = cond-true _ _ _ h
  same_token s (name k) h = refl
  same_token s (quoted k) h = refl
  same_token s (body ts) h = refl

  same_advance : (s : State) (f : Frame) (fs : List Frame) (r : Tokens) → AllInRange can r → advance_of can s f fs r ≡ advance s r f.again f.whole fs
  unfolding advance_of advance
  same_advance s f fs none h = refl
  same_advance s f fs (more t ts) h = same_token (with_frames s (record { rest = ts; again = f.again; whole = f.whole } ∷ fs)) t h.0

  same_step : (s : State) (fs : List Frame) → FramesFit fs → step_by_frame can s fs ≡ step_in s fs
  unfolding step_by_frame step_in
  same_step s [] h = refl
  same_step s (f ∷ fs) h = same_advance s f fs f.rest h.0

  same_on : (w : Went) (f g : State → Went) → Still w → ((t : State) → Staged t → f t ≡ g t) → go_on w f ≡ go_on w g
  unfolding go_on
  same_on (on s) f g (going h) same = same s h
  same_on (ends e s) f g over same = refl

  same_run : (n : ℕ) (s : State) → Staged s → run_of can n s ≡ run n s
  unfolding run_of run
  same_run zero s h = refl
  same_run (suc n) s h =
      ap (λ w. go_on w (λ t. run_of can n t)) (same_step s s.frames h.frames)
      ∙ same_on (step_in s s.frames) (λ t. run_of can n t) (λ t. run n t) (still_step s s.frames h h.frames) (λ t k. same_run n t k)

pub stages_are_whole : StagesAreWhole
stages_are_whole can ts n h = same_run can n (begin ts) (record { stack = tt; names = tt; frames = (h, tt, tt) })

-- the stage of all operators takes every step of the whole machine
every_token : (s : State) (t : Token) → run_token_of whole s t ≡ run_token s t
unfolding run_token_of run_token operate_of
every_token s (number n) = refl
every_token s (does k) = cond-true (whole (number_of k)) (operate s k) (ends (unsupported k) s) refl
every_token s (name k) = refl
every_token s (quoted k) = refl
every_token s (body ts) = refl

every_advance : (s : State) (f : Frame) (fs : List Frame) (r : Tokens) → advance_of whole s f fs r ≡ advance s r f.again f.whole fs
unfolding advance_of advance
every_advance s f fs none = refl
every_advance s f fs (more t ts) = every_token (with_frames s (record { rest = ts; again = f.again; whole = f.whole } ∷ fs)) t

every_step : (s : State) (fs : List Frame) → step_by_frame whole s fs ≡ step_in s fs
unfolding step_by_frame step_in
every_step s [] = refl
every_step s (f ∷ fs) = every_advance s f fs f.rest

every_on : (w : Went) (f g : State → Went) → ((t : State) → f t ≡ g t) → go_on w f ≡ go_on w g
unfolding go_on
every_on (on s) f g same = same s
every_on (ends e s) f g same = refl

pub step_is_whole : StepIsWhole
step_is_whole s = every_step s s.frames

pub whole_is_whole : WholeIsWhole
unfolding run_of run
whole_is_whole zero s = refl
whole_is_whole (suc n) s = ap (λ w. go_on w (λ t. run_of whole n t)) (every_step s s.frames) ∙ every_on (step_in s s.frames) (λ t. run_of whole n t) (λ t. run n t) (λ t. whole_is_whole n t)
