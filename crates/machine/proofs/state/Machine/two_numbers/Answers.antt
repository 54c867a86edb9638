use Rattle.std.proofs.Common.{drop, Err, sym, ap, ◌∙◌}
use Rattle.std.proofs.lemmas.Result.{err_from_is_err_and}
use Rattle.machine.specs.Machine.{with_one, with_two}
use Rattle.machine.specs.Abstraction.{state, stack_of, with_numbers}
use Rattle.machine.proofs.state.Machine.two_numbers.Goals as goal

pub returns-in_err-b : goal.returns-in_err-b
unfolding with_two
returns-in_err-b g c =
    let m = c.args.self.now in
    let q = err_from_is_err_and c.from_residual.result c.from_residual.ensures.1 in
    λ p t f.
    let s = state m p t in
    c.in_err-b.ensures s (λ b vs. with_one s vs (λ a us. f a b us)) ∙ sym (ap (λ r. with_numbers r s (drop 2 (stack_of m)) f) (q.1 ∙ ap Err q.2))

pub returns-in_err-a : goal.returns-in_err-a
unfolding with_two
returns-in_err-a g c =
    let m = c.args.self.now in
    let q = err_from_is_err_and c.from_residual-in_err-a.result c.from_residual-in_err-a.ensures.1 in
    λ p t f.
    let s = state m p t in
    c.in_ok-b.ensures s (λ b vs. with_one s vs (λ a us. f a b us))
    ∙ c.in_err-a.ensures s (λ a us. f a c.in_ok-b.b us)
    ∙ sym (ap (λ r. with_numbers r s (drop 2 (stack_of m)) f) (q.1 ∙ ap Err q.2))

pub returns : goal.returns
unfolding with_two
returns g c =
    let m = c.args.self.now in
    λ p t f.
    let s = state m p t in
    c.in_ok-b.ensures s (λ b vs. with_one s vs (λ a us. f a b us)) ∙ c.in_ok-a.ensures s (λ a us. f a c.in_ok-b.b us)
