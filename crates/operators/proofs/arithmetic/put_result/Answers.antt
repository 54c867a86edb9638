use Rattle.std.proofs.Common.{sym, ◌∙◌, arith}
use Rattle.std.proofs.lemmas.Bool.{cond-true, cond-false, lt-ltb, le-ltb}
use Rattle.operators.proofs.arithmetic.put_result.Goals as goal

pub returns-then-n-ge-BOUND : goal.returns-then-n-ge-BOUND
returns-then-n-ge-BOUND g c = λ p t. sym (cond-false _ _ _ (le-ltb c.args.n 2147483648 (omega arith)))

pub returns : goal.returns
returns g c = λ p t. c.push_over.ensures p t ∙ sym (cond-true _ _ _ (lt-ltb c.args.n 2147483648 (omega arith)))
