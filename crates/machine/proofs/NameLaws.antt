-- Names and what they mean, over plain lists: what is found, and what one more binding leaves.
use Rattle.std.proofs.Common.{◌≡◌, ℕ, zero, suc, ◌+◌, ◌<◌, Bool, true, false, not, ◌&&◌, List, [], ◌∷◌, ◌++◌, map, length, get_or, set, replicate, Option, None, sym, refl, ap, ◌∙◌, inl, inr, arith}
use Rattle.std.proofs.lemmas.Bool.{cond-true, cond-false, eq-eqb, ne_eqb, cases_eq, and_parts, not-true}
use Rattle.std.proofs.lemmas.List.{get_or-set_same, get_or-set_other}
use Rattle.machine.specs.Names.{is_some, flags, listed, distinct, unset}
use Rattle.machine.specs.Machine.{Value, Binding, found, rebound}

-- what is said of the first name of a row that is the one looked for, and of one that is not
listed_here : (n k : ℕ) (ns : List ℕ) → n ≡ k → listed k (n ∷ ns) ≡ true
unfolding listed
listed_here n k ns e = cond-true _ _ _ (eq-eqb n k e)

listed_there : (n k : ℕ) (ns : List ℕ) → (n ≡ k → ⊥) → listed k (n ∷ ns) ≡ listed k ns
unfolding listed
listed_there n k ns ne = cond-false _ _ _ (ne_eqb n k ne)

never : {A : Type 0} → true ≡ false → A
never e = let z : ◌≡◌ {A = ℕ} 0 1 = cc in absurd (omega arith)

-- a name that a row has not is not its first
not_first : (n k : ℕ) (ns : List ℕ) → listed k (n ∷ ns) ≡ false → n ≡ k → ⊥
not_first n k ns e is = never (sym (listed_here n k ns is) ∙ e)

pub listed_same : (j k : ℕ) (ns : List ℕ) → k ≡ j → listed j (ns ++ (k ∷ [])) ≡ true
listed_same j k [] is = listed_here k j [] is
listed_same j k (n ∷ ns) is = elim (cases_eq n j) [ inl e ↦ listed_here n j (ns ++ (k ∷ [])) e | inr ne ↦ listed_there n j (ns ++ (k ∷ [])) ne ∙ listed_same j k ns is ]

pub listed_other : (j k : ℕ) (ns : List ℕ) → (k ≡ j → ⊥) → listed j (ns ++ (k ∷ [])) ≡ listed j ns
listed_other j k [] is = listed_there k j [] is
listed_other j k (n ∷ ns) is =
    elim (cases_eq n j) [
      | inl e ↦ listed_here n j (ns ++ (k ∷ [])) e ∙ sym (listed_here n j ns e)
      | inr ne ↦ listed_there n j (ns ++ (k ∷ [])) ne ∙ listed_other j k ns is ∙ sym (listed_there n j ns ne)
    ]

pub distinct_none : distinct [] ≡ true
unfolding distinct
distinct_none = refl

pub listed_none : (k : ℕ) → listed k [] ≡ false
unfolding listed
listed_none k = refl

pub distinct_more : (k : ℕ) (ns : List ℕ) → distinct ns ≡ true → listed k ns ≡ false → distinct (ns ++ (k ∷ [])) ≡ true
unfolding distinct
distinct_more k [] d l = ap (λ b. not b && true) (listed_none k)
distinct_more k (n ∷ ns) d l =
    let parts = and_parts (not (listed n ns)) (distinct ns) d in
    let ne = not_first n k ns l in
    let other : k ≡ n → ⊥ = λ e. ne (sym e) in
    ap (λ b. not b && distinct (ns ++ (k ∷ []))) (listed_other n k ns other ∙ not-true _ parts.0) ∙ distinct_more k ns parts.1 (sym (listed_there n k ns ne) ∙ l)

module _ (V : ℕ → Value) where
  abbrev binding : ℕ → Binding
  binding n = record { called = n; means = V n }

  pub found_listed : (k : ℕ) (ns : List ℕ) → listed k ns ≡ true → found (map binding ns) k [] ≡ V k ∷ []
  unfolding found
  found_listed k [] l = never (sym l ∙ listed_none k)
  found_listed k (n ∷ ns) l =
      elim (cases_eq n k) [
        | inl e ↦ cond-true _ _ _ (eq-eqb n k e) ∙ ap (λ x. V x ∷ []) e
        | inr ne ↦ cond-false _ _ _ (ne_eqb n k ne) ∙ found_listed k ns (sym (listed_there n k ns ne) ∙ l)
      ]

  pub found_not : (k : ℕ) (ns : List ℕ) → listed k ns ≡ false → found (map binding ns) k [] ≡ []
  unfolding found
  found_not k [] l = refl
  found_not k (n ∷ ns) l = let ne = not_first n k ns l in cond-false _ _ _ (ne_eqb n k ne) ∙ found_not k ns (sym (listed_there n k ns ne) ∙ l)

  -- another meaning of one name
  module _ (W : ℕ → Value) (k : ℕ) (v : Value) (here : W k ≡ v) (else : (n : ℕ) → (n ≡ k → ⊥) → W n ≡ V n) where
    abbrev changed : ℕ → Binding
    changed n = record { called = n; means = W n }

    here_is : (n : ℕ) → n ≡ k → record { called = k; means = v } ≡ changed n
    here_is n e = ap {B = Binding} (λ x. record { called = k; means = x }) (sym here) ∙ ap changed (sym e)

    unchanged : (ns : List ℕ) → listed k ns ≡ false → map binding ns ≡ map changed ns
    unchanged [] l = refl
    unchanged (n ∷ ns) l =
        let ne = not_first n k ns l in
        ap {B = List Binding} (λ x. record { called = n; means = x } ∷ map binding ns) (sym (else n ne)) ∙ ap (λ bs. changed n ∷ bs) (unchanged ns (sym (listed_there n k ns ne) ∙ l))

    pub rebound_listed : (ns : List ℕ) → distinct ns ≡ true → listed k ns ≡ true → rebound (map binding ns) k v ≡ map changed ns
    unfolding rebound distinct
    rebound_listed [] d l = never (sym l ∙ listed_none k)
    rebound_listed (n ∷ ns) d l =
        let parts = and_parts (not (listed n ns)) (distinct ns) d in
        elim (cases_eq n k) [
          | inl e ↦ cond-true _ _ _ (eq-eqb n k e) ∙ ap (λ b. b ∷ map binding ns) (here_is n e) ∙ ap (λ bs. changed n ∷ bs) (unchanged ns (ap (λ x. listed x ns) (sym e) ∙ not-true _ parts.0))
          | inr ne ↦
              cond-false _ _ _ (ne_eqb n k ne) ∙ ap {B = List Binding} (λ x. record { called = n; means = x } ∷ rebound (map binding ns) k v) (sym (else n ne))
              ∙ ap (λ bs. changed n ∷ bs) (rebound_listed ns parts.1 (sym (listed_there n k ns ne) ∙ l))
        ]

    pub rebound_more : (ns : List ℕ) → listed k ns ≡ false → rebound (map binding ns) k v ≡ map changed (ns ++ (k ∷ []))
    unfolding rebound
    rebound_more [] l = ap (λ b. b ∷ []) (here_is k refl)
    rebound_more (n ∷ ns) l =
        let ne = not_first n k ns l in
        cond-false _ _ _ (ne_eqb n k ne) ∙ ap {B = List Binding} (λ x. record { called = n; means = x } ∷ rebound (map binding ns) k v) (sym (else n ne))
        ∙ ap (λ bs. changed n ∷ bs) (rebound_more ns (sym (listed_there n k ns ne) ∙ l))

-- a flag that is set is one less that is not
pub unset_less : (bs : List Bool) (k : ℕ) → k < length bs → get_or bs k false ≡ false → unset (set bs k true) + 1 ≡ unset bs
unfolding unset
unset_less [] k lt e = absurd (omega arith)
unset_less (true ∷ bs) zero lt e = never e
unset_less (false ∷ bs) zero lt e = omega arith
unset_less (b ∷ bs) (suc k) lt e = let h = unset_less bs k (omega arith) e in omega arith

pub unset_all : (n : ℕ) → unset (replicate n false) ≡ n
unfolding unset
unset_all zero = refl
unset_all (suc n) = let h = unset_all n in omega arith

-- the flags say which names a row has; with one more of each they still do
pub known_more : (bs : List Bool) (ns : List ℕ) (k : ℕ) → k < 256 → length bs ≡ 256 → ((j : ℕ) → j < 256 → get_or bs j false ≡ listed j ns) → (j : ℕ) → j < 256 → get_or (set bs k true) j false ≡ listed j (ns ++ (k ∷ []))
known_more bs ns k lt len all j below =
    elim (cases_eq j k) [
      | inl e ↦ ap (λ x. get_or (set bs k true) x false) e ∙ get_or-set_same bs k true false (omega arith) ∙ sym (listed_same j k ns (sym e))
      | inr ne ↦ get_or-set_other bs k j true false ne ∙ all j below ∙ sym (listed_other j k ns (λ e. ne (sym e)))
    ]

-- whether a place of a row has a value
pub flag_is : {A : Type 0} (vs : List (Option A)) (k : ℕ) → get_or (flags vs) k false ≡ is_some (get_or vs k None)
flag_is [] k = refl
flag_is (v ∷ vs) zero = refl
flag_is (v ∷ vs) (suc k) = flag_is vs k

pub flags_none : (A : Type 0) (n : ℕ) → flags {A = A} (replicate n None) ≡ replicate n false
flags_none A zero = refl
flags_none A (suc n) = ap (λ l. false ∷ l) (flags_none A n)
