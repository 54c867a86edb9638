use Rattle.std.proofs.Common.{reverse, take, ap, ◌∙◌, arith}
use Rattle.stack.proofs.Turned.{turned_drop}
use Rattle.stack.proofs.Stack.drop_top.Goals as goal

pub returns : goal.returns
returns g c =
    let s = c.args.self.now in
    ap (λ n. reverse (take n s.items)) c.saturating_sub-self.ensures ∙ turned_drop s.items s.len c.args.n (omega arith)
