use Rattle.std.proofs.Common.{drop, Err, sym, ap, ◌∙◌, arith}
use Rattle.std.proofs.lemmas.Result.{err_from_is_err_and}
use Rattle.std.proofs.lemmas.Bool.{cond-true, cond-false, lt-ltb, le-ltb}
use Rattle.machine.specs.Machine.{push_number, operate}
use Rattle.machine.specs.Abstraction.{state, stack_of, after}
use Rattle.operators.proofs.arithmetic.compare.Goals as goal

pub returns-in_err-a : goal.returns-in_err-a
unfolding operate
returns-in_err-a g c =
    let m = c.args.m.now in
    let q = err_from_is_err_and c.from_residual.result c.from_residual.ensures.1 in
    λ p t. ap (λ r. after r m p t) (q.1 ∙ ap Err q.2) ∙ sym (c.in_err-a.ensures p t _)

pub returns-then-a-b : goal.returns-then-a-b
unfolding operate
returns-then-a-b g c =
    let m = c.args.m.now in
    λ p t. c.put_result.ensures p t ∙ sym (c.in_ok-a.ensures p t _ ∙ ap (push_number (state m p t) (drop 2 (stack_of m))) (cond-true _ _ _ (lt-ltb c.in_ok-a.a c.in_ok-a.b (omega arith))))

pub returns-else-a-b : goal.returns-else-a-b
unfolding operate
returns-else-a-b g c =
    let m = c.args.m.now in
    λ p t. c.put_result-else-a-b.ensures p t ∙ sym (c.in_ok-a.ensures p t _ ∙ ap (push_number (state m p t) (drop 2 (stack_of m))) (cond-false _ _ _ (le-ltb c.in_ok-a.a c.in_ok-a.b (omega arith))))
