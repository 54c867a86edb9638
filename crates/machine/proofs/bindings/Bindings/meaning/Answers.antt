use Rattle.std.proofs.Common.{◌≡◌, ℕ, ◌<◌, [], ◌∷◌, get_or, take, Option, Some, None, MatchOption, sym, refl, ap, ◌∙◌, arith}
use Rattle.machine.specs.Machine.{found}
use Rattle.machine.specs.Names.{is_some}
use Rattle.machine.specs.Abstraction.{meaning_of, binding_of, bindings_of, value_of}
use Rattle.machine.specs.declared.state.Value as code_value
use Rattle.machine.specs.declared.bindings.Bindings.{Bindings}
use Rattle.machine.proofs.NameLaws.{flag_is, found_listed, found_not}
use Rattle.machine.proofs.bindings.Bindings.meaning.Goals as goal

means : (b : Bindings) (k : ℕ) (r : Option code_value.Value) → k < 256 → get_or b.meanings.now k None ≡ r →
    MatchOption r (found (bindings_of b) k [] ≡ []) (λ v. found (bindings_of b) k [] ≡ value_of v ∷ [])
means b k None lt is = found_not (λ n. (binding_of b.meanings.now n).means) k (take b.count b.order) (sym (b.known k lt) ∙ flag_is b.meanings.now k ∙ ap is_some is)
means b k (Some v) lt is =
    found_listed (λ n. (binding_of b.meanings.now n).means) k (take b.count b.order) (sym (b.known k lt) ∙ flag_is b.meanings.now k ∙ ap is_some is) ∙ ap (λ o. meaning_of o ∷ []) is

pub returns : goal.returns
returns c = means c.args.self.now c.args.name _ (omega arith) refl
