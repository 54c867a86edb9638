use Rattle.std.proofs.Common.{cond, eqb, drop, Err, sym, ap, ◌∙◌, arith}
use Rattle.std.proofs.lemmas.Result.{err_from_is_err_and}
use Rattle.std.proofs.lemmas.Bool.{cond-true, cond-false, eq-eqb, ne_eqb}
use Rattle.tokens.specs.Stored.{decode}
use Rattle.machine.specs.Machine.{with_stack, with_one, enter, operate}
use Rattle.machine.specs.Abstraction.{state, stack_of, after}
use Rattle.operators.proofs.calling.branch.Goals as goal

pub returns-in_err-body : goal.returns-in_err-body
unfolding operate
returns-in_err-body g c =
    let m = c.args.m.now in
    let q = err_from_is_err_and c.from_residual.result c.from_residual.ensures.1 in
    λ p t. ap (λ r. after r m p t) (q.1 ∙ ap Err q.2) ∙ sym (c.in_err-body.ensures (state m p t) _)

pub returns-in_err-n : goal.returns-in_err-n
unfolding operate
returns-in_err-n g c =
    let m = c.args.m.now in
    let ts = decode c.in_ok-body.body.now in
    let q = err_from_is_err_and c.from_residual-in_err-n.result c.from_residual-in_err-n.ensures.1 in
    λ p t.
    let s = state m p t in
    ap (λ r. after r m p t) (q.1 ∙ ap Err q.2)
    ∙ sym (c.in_ok-body.ensures s (λ b vs. with_one s vs (λ n us. enter (with_stack s us) b (cond (eqb n 0) 0 1))) ∙ c.in_err-n.ensures s (λ n us. enter (with_stack s us) ts (cond (eqb n 0) 0 1)))

pub returns-then-n-eq0 : goal.returns-then-n-eq0
unfolding operate
returns-then-n-eq0 g c =
    let m = c.args.m.now in
    let ts = decode c.in_ok-body.body.now in
    λ p t.
    let s = state m p t in
    c.enter.ensures p t ∙ ap (λ x. enter x ts 0) (c.drop_operands.ensures p t) ∙ ap (enter (with_stack s (drop 2 (stack_of m))) ts) (sym (cond-true _ _ _ (eq-eqb c.in_ok-n.n 0 (omega arith))))
    ∙ sym (c.in_ok-body.ensures s (λ b vs. with_one s vs (λ n us. enter (with_stack s us) b (cond (eqb n 0) 0 1))) ∙ c.in_ok-n.ensures s (λ n us. enter (with_stack s us) ts (cond (eqb n 0) 0 1)))

pub returns-else-n-eq0 : goal.returns-else-n-eq0
unfolding operate
returns-else-n-eq0 g c =
    let m = c.args.m.now in
    let ts = decode c.in_ok-body.body.now in
    λ p t.
    let s = state m p t in
    c.enter-else-n-eq0.ensures p t ∙ ap (λ x. enter x ts 1) (c.drop_operands.ensures p t) ∙ ap (enter (with_stack s (drop 2 (stack_of m))) ts) (sym (cond-false _ _ _ (ne_eqb c.in_ok-n.n 0 (λ e. omega arith))))
    ∙ sym (c.in_ok-body.ensures s (λ b vs. with_one s vs (λ n us. enter (with_stack s us) b (cond (eqb n 0) 0 1))) ∙ c.in_ok-n.ensures s (λ n us. enter (with_stack s us) ts (cond (eqb n 0) 0 1)))
