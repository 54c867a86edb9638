-- More steps change nothing for a job that is at its end.
use Rattle.std.proofs.Common.{◌≡◌, ℕ, zero, suc, ◌+◌, ◌<◌, List, [], ◌∷◌, refl, suc-add, zero-add, arith}
use Rattle.machine.specs.Machine.{Frame, State, Went, on, ends, step_in, step, go_on, at_end, run}
use Rattle.machine.specs.Laws.{end_of, MoreSteps}

-- nothing is left to run
over : (fs : List Frame) (s : State) (m : ℕ) → end_of (at_end fs s) < 8 → go_on (step_in s fs) (run m) ≡ at_end fs s
unfolding end_of at_end go_on step_in
over [] s m h = refl
over (f ∷ fs) s m h = absurd (omega arith)

over_at : (s : State) (m : ℕ) → end_of (run 0 s) < 8 → run m s ≡ run 0 s
unfolding run
over_at s zero h = refl
over_at s (suc m) h = over s.frames s m h

after_step : (w : Went) (f g : State → Went) → ((t : State) → end_of (f t) < 8 → g t ≡ f t) → end_of (go_on w f) < 8 → go_on w g ≡ go_on w f
unfolding go_on
after_step (on s) f g each h = each s h
after_step (ends e s) f g each h = refl

pub more_steps : MoreSteps
unfolding run
more_steps s zero m h = rw zero-add (over_at s m h)
more_steps s (suc n) m h = rw suc-add (after_step (step s) (run n) (run (n + m)) (λ t k. more_steps t n m k) h)
