-- A step of a stage of the written machine, case by case, as the code takes it.
use Rattle.std.proofs.Common.{◌≡◌, ℕ, suc, ◌-◌, ◌<◌, Bool, List, [], ◌∷◌, Result, sym, ap, ◌∙◌, arith}
use Rattle.tokens.specs.Token.{Token, Tokens, none, more}
use Rattle.machine.specs.Machine.{State, Frame, Went, on, ends, with_frames, advance}
use Rattle.machine.specs.Stage.{run_token_of, advance_of, step_by_frame, step_of}
use Rattle.machine.specs.Abstraction.{Past, state, after, topped, tail, with_top, without_top}
use Rattle.machine.specs.declared.event.Fault.{Fault}
use Rattle.machine.specs.declared.event.Event.{Event}
use Rattle.machine.specs.declared.stage.Clipping.{Ghosts}
use Rattle.machine.specs.declared.state.Machine.{Machine}
use Rattle.path.specs.declared.builder.Path.{Path}
use Rattle.tokens.specs.declared.stage.Stage as stage

module _ (can : ℕ → Bool) where
  pub finished_there : (s : State) → s.frames ≡ [] → ends 0 s ≡ step_of can s
  unfolding step_by_frame
  finished_there s e = sym (ap (step_by_frame can s) e)

  -- the innermost frame is at its end
  at_its_end : (s : State) (f : Frame) (fs : List Frame) (n : ℕ) → s.frames ≡ f ∷ fs → none ≡ f.rest → f.again ≡ n → advance s none n f.whole fs ≡ step_of can s
  unfolding step_by_frame advance_of
  at_its_end s f fs n e over is = ap (λ k. advance s none k f.whole fs) (sym is) ∙ ap (advance_of can s f fs) over ∙ sym (ap (step_by_frame can s) e)

  pub once_more : (s : State) (f : Frame) (fs : List Frame) → s.frames ≡ f ∷ fs → none ≡ f.rest → 0 < f.again → on (with_top s (record { rest = f.whole; again = f.again - 1; whole = f.whole })) ≡ step_of can s
  unfolding advance
  once_more s f fs e over some =
      let k : f.again ≡ suc (f.again - 1) = omega arith in
      ap {B = Went} (λ x. on (with_frames s (topped x (record { rest = f.whole; again = f.again - 1; whole = f.whole })))) e ∙ at_its_end s f fs (suc (f.again - 1)) e over k

  pub leaves : (s : State) (f : Frame) (fs : List Frame) → s.frames ≡ f ∷ fs → none ≡ f.rest → f.again ≡ 0 → on (without_top s) ≡ step_of can s
  unfolding advance
  leaves s f fs e over is = ap {B = Went} (λ x. on (with_frames s (tail x))) e ∙ at_its_end s f fs 0 e over is

  pub takes_one : (s : State) (f : Frame) (fs : List Frame) (t : Token) (ts : Tokens) → s.frames ≡ f ∷ fs → more t ts ≡ f.rest →
      run_token_of can (with_top s (record { rest = ts; again = f.again; whole = f.whole })) t ≡ step_of can s
  unfolding step_by_frame advance_of
  takes_one s f fs t ts e is =
      ap (λ x. run_token_of can (with_frames s (topped x (record { rest = ts; again = f.again; whole = f.whole }))) t) e ∙ ap (advance_of can s f fs) is ∙ sym (ap (step_by_frame can s) e)

  -- an answer is that of a step from a state of the machine, whatever was painted and shown
  module _ {X : Type 0} {G : Ghosts X} {S : stage.Ghosts X} where
    abbrev pub Steps : Result Event Fault → Machine X G S → Path → Machine X G S → Path → Type 0
    Steps r m p before path = (t : Past) → after r m p t ≡ step_of can (state before path t)
