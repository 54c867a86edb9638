use Rattle.std.proofs.Common.{List, ◌∷◌, map, length, sym, refl, ap, ◌∙◌, arith}
use lib.ListN.{length-map}
use Rattle.std.proofs.lemmas.Bool.{cond-true, lt-ltb}
use Rattle.tokens.specs.Stored.{decode}
use Rattle.stack.specs.Contents.{top_down}
use Rattle.machine.specs.Machine.{Frame, on, with_frames}
use Rattle.machine.specs.Abstraction.{state, frame_of, frames_of}
use Rattle.machine.proofs.Beginning.{nothing}
use Rattle.machine.proofs.state.Machine.enter.Goals as goal

pub returns : goal.returns
returns g c =
    let m = c.args.self.now in
    let fs = frames_of m in
    let pushed = c.in_ok-try_push.ensures in
    let l = length-map (top_down m.frames.now) frame_of in
    let lt = pushed.variant.0 refl in
    λ p t.
    ap (λ x. on (with_frames (state m p t) x)) (ap (map frame_of) pushed.ok ∙ ap {B = List Frame} (λ r. record { rest = r; again = c.args.again; whole = decode c.args.body.now } ∷ fs) nothing)
    ∙ sym (cond-true _ _ _ (lt-ltb (length fs) 64 (omega arith)))
