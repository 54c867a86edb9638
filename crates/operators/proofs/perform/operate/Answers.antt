use Rattle.std.proofs.Common.{sym, ◌∙◌}
use Rattle.std.proofs.lemmas.Bool.{cond-true, cond-false}
use Rattle.machine.specs.Stage.{operate_of}
use Rattle.operators.proofs.perform.operate.Goals as goal

pub returns-then-does : goal.returns-then-does
unfolding operate_of
returns-then-does g c = λ t. c.perform.ensures t ∙ sym (cond-true _ _ _ (sym c.if-does.ensures))

pub returns-else-does : goal.returns-else-does
unfolding operate_of
returns-else-does g c = λ t. sym (cond-false _ _ _ (sym c.if-does.ensures))
