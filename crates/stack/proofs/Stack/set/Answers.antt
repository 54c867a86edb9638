use Rattle.std.proofs.Common.{arith}
use Rattle.stack.proofs.Turned.{turned_set}
use Rattle.stack.proofs.Stack.set.Goals as goal

pub returns-then-below-self : goal.returns-then-below-self
returns-then-below-self g c =
    let s = c.args.self.now in
    turned_set s.items s.len c.args.below c.args.item c.if-below-self.true (omega arith)
