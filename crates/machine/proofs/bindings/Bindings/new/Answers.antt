use Rattle.std.proofs.Common.{false, get_or, length, sym, ap, ◌∙◌, arith}
use Rattle.std.proofs.lemmas.List.{get_or-replicate}
use Rattle.machine.specs.Names.{flags, unset}
use Rattle.machine.proofs.NameLaws.{flags_none, unset_all, listed_none, distinct_none}
use Rattle.machine.proofs.bindings.Bindings.new.Goals as goal

pub invariant_of-result : goal.invariant_of-result
invariant_of-result c =
    let n = length c.args.meanings.now in
    let off = ap flags c.forget.ensures ∙ flags_none _ n in
    let many = ap unset off ∙ unset_all n in
    record {
      meant = c.forget.auto.meanings ∙ c.requires;
      counted = omega arith;
      once = distinct_none;
      known = λ k lt. ap (λ bs. get_or bs k false) off ∙ get_or-replicate n k false false (omega arith) ∙ sym (listed_none k);
    }
