use Rattle.std.proofs.Common.{◌∷◌, map, length, drop, sym, refl, ap, ◌∙◌, arith}
use lib.ListN.{length-map}
use Rattle.std.proofs.lemmas.List.{drop-map}
use Rattle.std.proofs.lemmas.Bool.{cond-true, lt-ltb}
use Rattle.stack.specs.Contents.{top_down}
use Rattle.machine.specs.Machine.{on, with_stack}
use Rattle.machine.specs.Abstraction.{state, stack_of, value_of}
use Rattle.machine.proofs.state.Machine.push_over.Goals as goal

pub returns : goal.returns
returns g c =
    let m = c.args.self.now in
    let vs = top_down m.values.now in
    let n = c.args.n in
    let us = drop n (stack_of m) in
    let pushed = c.in_ok-try_push_over.ensures in
    let below = drop-map value_of n vs in
    let l = ap length below ∙ length-map (drop n vs) value_of in
    let lt = pushed.variant.0 refl in
    λ p t.
    ap (λ x. on (with_stack (state m p t) x)) (ap (map value_of) pushed.ok ∙ ap (λ x. value_of c.args.v ∷ x) (sym below)) ∙ sym (cond-true _ _ _ (lt-ltb (length us) 256 (omega arith)))
