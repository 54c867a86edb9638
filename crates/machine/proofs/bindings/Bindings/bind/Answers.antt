use Rattle.std.proofs.Common.{◌≡◌, ℕ, ◌<◌, true, false, List, map, length, get_or, take, set, Option, Some, None, sym, ap, ◌∙◌, arith, length-set}
use lib.ListN.{length-map}
use Rattle.std.proofs.lemmas.List.{get_or-set_same, get_or-set_other, map-set, take_more_set, set-get_or}
use Rattle.machine.specs.Names.{is_some, flags, listed, distinct, unset}
use Rattle.machine.specs.Abstraction.{meaning_of, binding_of, value_of}
use Rattle.machine.specs.declared.state.Value as code_value
use Rattle.machine.specs.declared.bindings.Bindings.{Bindings}
use Rattle.machine.proofs.NameLaws.{flag_is, unset_less, distinct_more, known_more, rebound_listed, rebound_more}
use Rattle.machine.proofs.bindings.Bindings.bind.Goals as goal

-- a place has a value after this, whether it had one or not
flags_set : (vs : List (Option code_value.Value)) (k : ℕ) (v : code_value.Value) → flags (set vs k (Some v)) ≡ set (flags vs) k true
flags_set vs k v = map-set is_some vs k (Some v)

many : (b : Bindings) → length (flags b.meanings.now) ≡ 256
many b = length-map b.meanings.now is_some ∙ b.meant

-- a name that is not bound is one of those that are not counted
free : (b : Bindings) (k : ℕ) → k < 256 → get_or (flags b.meanings.now) k false ≡ false → b.count < 256
free b k lt off =
    let l = many b in
    let n = unset_less (flags b.meanings.now) k (omega arith) off in
    let c = b.counted in
    omega arith

pub bounds-self-self : goal.bounds-self-self
bounds-self-self c = let b = c.args.self.now in free b c.args.name (omega arith) (flag_is b.meanings.now c.args.name ∙ ap is_some c.in-None.is)

pub invariant_of-self-in-None : goal.invariant_of-self-in-None
invariant_of-self-in-None c =
    let b = c.args.self.now in
    let k = c.args.name in
    let vs = b.meanings.now in
    let ns = take b.count b.order in
    let off = flag_is vs k ∙ ap is_some c.in-None.is in
    let l = many b in
    let lt = free b k (omega arith) off in
    let fl = flags_set vs k c.args.v in
    let more = take_more_set b.order b.count k (omega arith) in
    let fewer = unset_less (flags vs) k (omega arith) off in
    let left = ap unset fl in
    record {
      meant = length-set vs k (Some c.args.v) ∙ b.meant;
      counted = omega (arith, b.counted);
      once = ap distinct more ∙ distinct_more k ns b.once (sym (b.known k (omega arith)) ∙ off);
      known = λ j below. ap (λ bs. get_or bs j false) fl ∙ known_more (flags vs) ns k (omega arith) l b.known j below ∙ sym (ap (listed j) more);
    }

pub returns-in-None : goal.returns-in-None
returns-in-None c =
    let b = c.args.self.now in
    let k = c.args.name in
    let vs = b.meanings.now in
    let ws = set vs k (Some c.args.v) in
    let off = flag_is vs k ∙ ap is_some c.in-None.is in
    let lt = free b k (omega arith) off in
    ap (map (binding_of ws)) (take_more_set b.order b.count k (omega arith))
    ∙ sym (rebound_more (λ n. (binding_of vs n).means) (λ n. (binding_of ws n).means) k (value_of c.args.v) (ap meaning_of (get_or-set_same vs k (Some c.args.v) None (omega (arith, b.meant)))) (λ n ne. ap meaning_of (get_or-set_other vs k n (Some c.args.v) None ne))
    (take b.count b.order) (sym (b.known k (omega arith)) ∙ off))

-- what was bound is bound again
again : (vs : List (Option code_value.Value)) (k : ℕ) (v w : code_value.Value) → get_or vs k None ≡ Some w → flags (set vs k (Some v)) ≡ flags vs
again vs k v w is = flags_set vs k v ∙ ap (set (flags vs) k) (sym (flag_is vs k ∙ ap is_some is)) ∙ set-get_or (flags vs) k false

pub invariant_of-self-in_default : goal.invariant_of-self-in_default
invariant_of-self-in_default c =
    let b = c.args.self.now in
    let k = c.args.name in
    let fl = again b.meanings.now k c.args.v c.in_default.field-0 c.in_default.is in
    let left = ap unset fl in
    record {
      meant = length-set b.meanings.now k (Some c.args.v) ∙ b.meant;
      counted = omega (arith, b.counted);
      once = b.once;
      known = λ j below. ap (λ bs. get_or bs j false) fl ∙ b.known j below;
    }

pub returns-in_default : goal.returns-in_default
returns-in_default c =
    let b = c.args.self.now in
    let k = c.args.name in
    let vs = b.meanings.now in
    let ws = set vs k (Some c.args.v) in
    sym (rebound_listed (λ n. (binding_of vs n).means) (λ n. (binding_of ws n).means) k (value_of c.args.v) (ap meaning_of (get_or-set_same vs k (Some c.args.v) None (omega (arith, b.meant)))) (λ n ne. ap meaning_of (get_or-set_other vs k n (Some c.args.v) None ne))
    (take b.count b.order) b.once (sym (b.known k (omega arith)) ∙ (flag_is vs k ∙ ap is_some c.in_default.is)))
