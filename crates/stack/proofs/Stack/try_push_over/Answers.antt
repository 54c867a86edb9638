use Rattle.std.proofs.Common.{◌∷◌, reverse, take, ap, ◌∙◌, arith}
use Rattle.stack.proofs.Turned.{turned_push, turned_drop}
use Rattle.stack.proofs.Stack.try_push_over.Goals as goal

pub returns-clause-ok : goal.returns-clause-ok
returns-clause-ok g c =
    let s = c.args.self.now in
    let v = c.args.item in
    turned_push s.items c.saturating_sub-len.result v (omega arith) ∙ ap (λ l. v ∷ l) (ap (λ n. reverse (take n s.items)) c.saturating_sub-len.ensures ∙ turned_drop s.items s.len c.args.n (omega arith))
