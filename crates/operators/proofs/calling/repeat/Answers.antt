use Rattle.std.proofs.Common.{Err, sym, ap, ◌∙◌}
use Rattle.std.proofs.lemmas.Result.{err_from_is_err_and}
use Rattle.tokens.specs.Stored.{decode}
use Rattle.machine.specs.Machine.{with_stack, with_one, enter, operate}
use Rattle.machine.specs.Abstraction.{state, after}
use Rattle.operators.proofs.calling.repeat.Goals as goal

pub returns-in_err-body : goal.returns-in_err-body
unfolding operate
returns-in_err-body g c =
    let m = c.args.m.now in
    let q = err_from_is_err_and c.from_residual.result c.from_residual.ensures.1 in
    λ p t. ap (λ r. after r m p t) (q.1 ∙ ap Err q.2) ∙ sym (c.in_err-body.ensures (state m p t) _)

pub returns-in_err-n : goal.returns-in_err-n
unfolding operate
returns-in_err-n g c =
    let m = c.args.m.now in
    let ts = decode c.in_ok-body.body.now in
    let q = err_from_is_err_and c.from_residual-in_err-n.result c.from_residual-in_err-n.ensures.1 in
    λ p t.
    let s = state m p t in
    ap (λ r. after r m p t) (q.1 ∙ ap Err q.2)
    ∙ sym (c.in_ok-body.ensures s (λ b vs. with_one s vs (λ n us. enter (with_stack s us) b n)) ∙ c.in_err-n.ensures s (λ n us. enter (with_stack s us) ts n))

pub returns : goal.returns
unfolding operate
returns g c =
    let m = c.args.m.now in
    let ts = decode c.in_ok-body.body.now in
    λ p t.
    let s = state m p t in
    c.enter.ensures p t ∙ ap (λ x. enter x ts c.in_ok-n.n) (c.drop_operands.ensures p t)
    ∙ sym (c.in_ok-body.ensures s (λ b vs. with_one s vs (λ n us. enter (with_stack s us) b n)) ∙ c.in_ok-n.ensures s (λ n us. enter (with_stack s us) ts n))
