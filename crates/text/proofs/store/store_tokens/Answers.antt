use Rattle.std.proofs.Common.{Ok, sym, subst, arith}
use Rattle.text.specs.Storing.{StoredAs}
use Rattle.text.proofs.Judging.{accepted}
use Rattle.text.proofs.store.store_tokens.Goals as goal

pub store_all-requires : goal.store_all-requires
store_all-requires g c =
    let ok = accepted g.S.Stage.can c.args.source.now c.in_ok-count.count c.in_ok-count.ensures in
    record { readable = ok.readable; count = 0; within = ok.within; enough = omega (arith, ok.many) }

pub returns : goal.returns
returns g c =
    let ok = accepted g.S.Stage.can c.args.source.now c.in_ok-count.count c.in_ok-count.ensures in
    subst (λ r. StoredAs (Ok c.store_all.result) r c.args.words.now c.store_all.new.words) (sym ok.is) (c.store_all.ensures.value, c.store_all.ensures.after)
