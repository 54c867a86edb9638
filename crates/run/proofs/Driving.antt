-- A run, step by step, and what a sink has seen of it.
use Rattle.std.proofs.Common.{◌≡◌, ℕ, suc, ◌+◌, ◌-◌, ◌<◌, ◌≤◌, Bool, true, false, List, [], ◌∷◌, ◌++◌, length, sym, refl, ap, ◌∙◌, add-zero, zero-add, inl, inr, arith, length-append}
use Rattle.std.proofs.lemmas.Bool.{cases_Bool}
use Rattle.path.specs.Path.{Paint}
use Rattle.tokens.specs.Stage.{whole}
use Rattle.machine.specs.Machine.{State, Frame, on, ends, go_on, at_end, run}
use Rattle.machine.proofs.Staged.{whole_is_whole}
use Rattle.machine.specs.Stage.{step_of, run_of}
use Rattle.machine.specs.Laws.{state_of, end_of}
use Rattle.machine.specs.Abstraction.{Past, no_past, with_painted, with_page, paint_in, state}
use Rattle.tokens.specs.declared.stage.Stage as stage
use Rattle.machine.specs.declared.stage.Clipping.{Ghosts}
use Rattle.machine.specs.declared.state.Machine.{Machine}
use Rattle.path.specs.declared.builder.Path.{Path}
use Rattle.run.specs.declared.drive.Ending.{Ending}
use Rattle.run.specs.Sinks.{ending_number, is_stopped, past_of, all_painted, all_shown, told, Driven}

module _ (can : ℕ → Bool) where
  pub run_all : (k : ℕ) (s : State) → run_of can k s ≡ run_of can (0 + k) s
  run_all k s = ap (λ m. run_of can m s) (sym (zero-add k))

  -- a step that goes on: what is run from there is one step less
  pub run_on : (i : ℕ) (s t first : State) → on t ≡ step_of can s → ((k : ℕ) → run_of can k s ≡ run_of can (i + k) first) → (k : ℕ) → run_of can k t ≡ run_of can (i + 1 + k) first
  unfolding run_of go_on
  run_on i s t first e h k =
      let n : i + suc k ≡ i + 1 + k = omega arith in
      ap (λ w. go_on w (λ u. run_of can k u)) e ∙ h (suc k) ∙ ap (λ m. run_of can m first) n

  -- a step at which the run ends is its end
  run_ends : (n i e : ℕ) (s t first : State) → i < n → ends e t ≡ step_of can s → ((k : ℕ) → run_of can k s ≡ run_of can (i + k) first) → ends e t ≡ run_of can n first
  unfolding run_of go_on
  run_ends n i e s t first lt is h =
      let k : i + suc (n - (i + 1)) ≡ n = omega arith in
      ap (λ w. go_on w (λ u. run_of can (n - (i + 1)) u)) is ∙ h (suc (n - (i + 1))) ∙ ap (λ m. run_of can m first) k

  -- where the run is after its first i steps
  run_here : (i : ℕ) (s first : State) → ((k : ℕ) → run_of can k s ≡ run_of can (i + k) first) → at_end s.frames s ≡ run_of can i first
  unfolding run_of
  run_here i s first h = h 0 ∙ ap (λ m. run_of can m first) (add-zero i)

-- a state at its end is the one that it was
at_end_state : (fs : List Frame) (s : State) → state_of (at_end fs s) ≡ s
unfolding state_of at_end
at_end_state [] s = refl
at_end_state (f ∷ fs) s = refl

-- a test has one outcome
pub never : {P : Type 0} {b : Bool} → b ≡ false → b ≡ true → P
never e f = let z : ◌≡◌ {A = ℕ} 0 1 = cc in absurd (omega arith)

-- a sink that always wants more is never left before the end
pub goes_on : (r : Ending) → (is_stopped r ≡ true → true ≡ false) → is_stopped r ≡ false
goes_on r h = elim (cases_Bool (is_stopped r)) [ inl e ↦ never {b = true} (h e) refl | inr runs ↦ runs ]

module _ {V : Type 0} (f : Paint → V → V) (g : V → V) where
  painted_more : (ps : List Paint) (p : Paint) (v : V) → all_painted f (ps ++ (p ∷ [])) v ≡ f p (all_painted f ps v)
  unfolding all_painted
  painted_more [] p v = refl
  painted_more (q ∷ ps) p v = painted_more ps p (f q v)

  shown_more : (gs : List (List Paint)) (ps : List Paint) (v : V) → all_shown f g (gs ++ (ps ∷ [])) v ≡ g (all_painted f ps (all_shown f g gs v))
  unfolding all_shown
  shown_more [] ps v = refl
  shown_more (qs ∷ gs) ps v = shown_more gs ps (g (all_painted f qs v))

  pub told_none : (v : V) → v ≡ told f g no_past v
  unfolding all_painted all_shown
  told_none v = refl

  pub told_painted : (t : Past) (p : Paint) (v w : V) → w ≡ told f g t v → f p w ≡ told f g (with_painted t p) v
  told_painted t p v w e = ap (f p) e ∙ sym (painted_more t.paints p (all_shown f g t.pages v))

  pub told_page : (t : Past) (v w : V) → w ≡ told f g t v → g w ≡ told f g (with_page t) v
  unfolding all_painted
  told_page t v w e = ap g e ∙ sym (shown_more t.pages t.paints v)

  -- a run that ends at a step: what it ends with, what was seen, and that no step_of can shows more than a page
  pub closes : (can : ℕ → Bool) (more : V → Bool) (r : Ending) (n i : ℕ) (s last first : State) (v w : V) → is_stopped r ≡ false → i < n → ends (ending_number r) last ≡ step_of can s →
      ((k : ℕ) → run_of can k s ≡ run_of can (i + k) first) → w ≡ told f g (record { paints = last.paints; pages = last.pages }) v → length last.pages ≤ i → Driven (run_of can) f g more r n first v w
  unfolding state_of end_of
  closes can more r n i s last first v w runs lt stepped is seen few =
      let at = run_ends can n i (ending_number r) s last first lt stepped is in
      let k = ap (λ x. length (state_of x).pages) at in
      record { taken = n; within = omega arith; seen = seen ∙ ap (λ x. told f g (past_of x) v) at; few = omega arith; whole = λ _. refl; ended = λ _. ap end_of at; enough = λ h. never runs h }

  -- what a run has come to after i steps, where it stops or they are used up
  pub rests : (can : ℕ → Bool) (more : V → Bool) (r : Ending) (n i : ℕ) (last first : State) (v w : V) → i ≤ n → ((k : ℕ) → run_of can k last ≡ run_of can (i + k) first) →
      w ≡ told f g (record { paints = last.paints; pages = last.pages }) v → length last.pages ≤ i →
      (is_stopped r ≡ false → (n ≤ i) × (end_of (at_end last.frames last) ≡ ending_number r)) → (is_stopped r ≡ true → more w ≡ false) → Driven (run_of can) f g more r n first v w
  rests can more r n i last first v w le is seen few over stops =
      let at = run_here can i last first is in
      let same : last ≡ state_of (run_of can i first) = sym (at_end_state last.frames last) ∙ ap state_of at in
      let k = ap (λ x. length x.pages) same in
      record {
        taken = i;
        within = le;
        seen = seen ∙ ap (λ x. told f g (record { paints = x.paints; pages = x.pages }) v) same;
        few = omega arith;
        whole = λ h. let z = (over h).0 in omega arith;
        ended = λ h. let z : i ≡ n = (let y = (over h).0 in omega arith) in sym (over h).1 ∙ ap end_of at ∙ ap (λ m. end_of (run_of can m first)) z;
        enough = stops;
      }

-- a thing painted by equal words is the same thing
pub same_paint : {ps qs cs ds : List ℕ} {a b : ℕ} → ps ≡ qs → cs ≡ ds → a ≡ b → paint_in ps cs a ≡ paint_in qs ds b
same_paint {qs = qs} {cs = cs} {ds = ds} {a = a} e f h = ap (λ x. paint_in x cs a) e ∙ ap (λ x. paint_in qs x a) f ∙ ap (paint_in qs ds) h

pub page_more : (t : Past) (i : ℕ) → length t.pages ≤ i → length (with_page t).pages ≤ i + 1
page_more t i le = omega (arith, length-append t.pages (t.paints ∷ []))

-- the machine's own state at its end, with what was painted and shown by then
pub closed : (can : ℕ → Bool) (n i e : ℕ) (s last first : State) → i < n → ends e last ≡ step_of can s → ((k : ℕ) → run_of can k s ≡ run_of can (i + k) first) → last ≡ state_of (run_of can n first)
unfolding state_of
closed can n i e s last first lt stepped is = ap state_of (run_ends can n i e s last first lt stepped is)

pub rested : (can : ℕ → Bool) (n i : ℕ) (last first : State) → i ≡ n → ((k : ℕ) → run_of can k last ≡ run_of can (i + k) first) → last ≡ state_of (run_of can n first)
rested can n i last first all is = sym (at_end_state last.frames last) ∙ ap state_of (run_here can i last first is) ∙ ap (λ m. state_of (run_of can m first)) all

module _ {X : Type 0} {G : Ghosts X} {S : stage.Ghosts X} where
  pub same_end : (m : Machine X G S) (p : Path) (t : Past) (s : State) → state m p t ≡ s → state m p (record { paints = s.paints; pages = s.pages }) ≡ s
  same_end m p t s e = ap (λ x. state m p (record { paints = x.paints; pages = x.pages })) (sym e) ∙ e

-- what is known of a run of the stage of all operators is known of the whole machine's
pub as_whole : {V : Type 0} {f : Paint → V → V} {g : V → V} {more : V → Bool} {r : Ending} {n : ℕ} {s : State} {v w : V} → Driven (run_of whole) f g more r n s v w → Driven run f g more r n s v w
as_whole {f = f} {g = g} {n = n} {s = s} {v = v} d =
    let at = whole_is_whole d.taken s in
    let k = ap (λ x. length (state_of x).pages) at in
    record {
      taken = d.taken;
      within = d.within;
      seen = d.seen ∙ ap (λ x. told f g (past_of x) v) at;
      few = (let few = d.few in omega arith);
      whole = d.whole;
      ended = λ h. d.ended h ∙ ap end_of (whole_is_whole n s);
      enough = d.enough;
    }
