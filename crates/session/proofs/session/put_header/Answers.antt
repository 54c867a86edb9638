use Rattle.std.proofs.Common.{◌≡◌, ℕ, List, [], ◌∷◌, length, set, refl, arith}
use Rattle.session.proofs.session.put_header.Goals as goal

four_set : (xs : List ℕ) (a b c d : ℕ) → length xs ≡ 4 → set (set (set (set xs 0 a) 1 b) 2 c) 3 d ≡ a ∷ (b ∷ (c ∷ (d ∷ [])))
four_set [] a b c d e = absurd (omega arith)
four_set (w ∷ []) a b c d e = absurd (omega arith)
four_set (w ∷ (x ∷ [])) a b c d e = absurd (omega arith)
four_set (w ∷ (x ∷ (y ∷ []))) a b c d e = absurd (omega arith)
four_set (w ∷ (x ∷ (y ∷ (z ∷ [])))) a b c d e = refl
four_set (w ∷ (x ∷ (y ∷ (z ∷ (v ∷ vs))))) a b c d e = absurd (omega arith)

pub returns : goal.returns
returns c = four_set c.args.header.now _ _ _ _ c.requires
