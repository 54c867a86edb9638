-- What it says that no fault was found.
use Rattle.std.proofs.Common.{◌≡◌, ℕ, Bool, true, false, cond, refl, arith}
use Rattle.lexer.specs.Reading.{Fault, fine, at}

pub not_fine : (n : ℕ) → at n ≡ fine → ⊥
not_fine n e = let z : ◌≡◌ {A = ℕ} 0 1 = cc in omega arith

-- a test that has to hold for what follows to be looked at
pub passed : (b : Bool) (f : Fault) (n : ℕ) → cond b f (at n) ≡ fine → (b ≡ true) × (f ≡ fine)
passed true f n e = (refl, e)
passed false f n e = absurd (not_fine n e)

-- a test that must not hold for it
pub failed : (b : Bool) (f : Fault) (n : ℕ) → cond b (at n) f ≡ fine → (b ≡ false) × (f ≡ fine)
failed true f n e = absurd (not_fine n e)
failed false f n e = (refl, e)
