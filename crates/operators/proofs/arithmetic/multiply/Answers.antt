use Rattle.std.proofs.Common.{Err, sym, ap, ◌∙◌}
use Rattle.std.proofs.lemmas.Result.{err_from_is_err_and}
use Rattle.machine.specs.Machine.{operate}
use Rattle.machine.specs.Abstraction.{after}
use Rattle.operators.proofs.arithmetic.multiply.Goals as goal

pub returns-in_err-a : goal.returns-in_err-a
unfolding operate
returns-in_err-a g c =
    let m = c.args.m.now in
    let q = err_from_is_err_and c.from_residual.result c.from_residual.ensures.1 in
    λ p t. ap (λ r. after r m p t) (q.1 ∙ ap Err q.2) ∙ sym (c.in_err-a.ensures p t _)

pub returns : goal.returns
unfolding operate
returns g c = λ p t. c.put_result.ensures p t ∙ sym (c.in_ok-a.ensures p t _)
