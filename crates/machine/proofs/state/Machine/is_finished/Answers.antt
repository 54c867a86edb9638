use Rattle.std.proofs.Common.{◌≡◌, List, [], ◌∷◌, if◌then◌else◌, map, length, eqb, sym, refl, ap, ◌∙◌, arith}
use Rattle.std.proofs.lemmas.Bool.{ne_eqb}
use Rattle.stack.specs.Contents.{top_down}
use Rattle.machine.specs.Machine.{State, at_end}
use Rattle.machine.specs.Laws.{end_of}
use Rattle.machine.specs.Abstraction.{frame_of}
use Rattle.machine.specs.declared.state.Frame as CodeFrame
use Rattle.machine.proofs.state.Machine.is_finished.Goals as goal

ended : (fs : List CodeFrame.Frame) (s : State) → end_of (at_end (map frame_of fs) s) ≡ (if eqb (length fs) 0 then 0 else 8)
unfolding end_of at_end
ended [] s = refl
ended (f ∷ fs) s = sym (ap (λ b. if b then 0 else 8) (ne_eqb (length (f ∷ fs)) 0 (λ e. omega arith)))

pub returns : goal.returns
returns g c = λ s. ended (top_down c.args.self.now.frames.now) s ∙ sym (ap (λ b. if b then 0 else 8) c.is_empty.ensures)
