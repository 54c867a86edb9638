use Rattle.std.proofs.Common.{◌≡◌, true, eqb, get_or, sym, ◌∙◌, arith}
use Rattle.std.proofs.lemmas.Bool.{eq-eqb}
use Rattle.lexer.proofs.Scanning.{skip_space, enter_remark}
use Rattle.lexer.proofs.skip_blanks.Goals as goal

pub loop-i-preserved-then-space : goal.loop-i-preserved-then-space
loop-i-preserved-then-space c = (omega arith, c.loop-i.invariant.1 ∙ skip_space c.args.source.now c.loop-i.i (omega arith) (sym c.if-space.ensures))

pub loop-i-preserved : goal.loop-i-preserved
loop-i-preserved c =
    let n : eqb (get_or c.args.source.now c.loop-i.i 0) 37 ≡ true = eq-eqb _ _ (omega arith) in
    (omega arith, c.loop-i.invariant.1 ∙ enter_remark c.args.source.now c.loop-i.i (omega arith) n ∙ c.skip_remark-i.ensures.rest)
