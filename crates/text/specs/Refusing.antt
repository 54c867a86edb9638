-- The numbers and places of refusals, and what reading answers in them. Cited by the contracts of reading and of all that refuse. Assumes nothing: these are definitions.
use Rattle.std.specs.Prelude.{◌≡◌, ℕ, List, ◌++◌, Ok, Err, Result, codes, decimal}
use Rattle.text.specs.declared.refusal.Refusal.{Refusal}
use Rattle.text.specs.declared.refusal.Refusal.TheVariants.{Unreadable, TooLarge, TooLittleMemory}
use Rattle.tokens.specs.Token.{size}
use Rattle.lexer.specs.Reading.{Fault, fine, at, Read, refused, tokens}

-- the number by which a job is turned away, and the place that is told with it
abbrev pub refusal_number : Refusal → ℕ
refusal_number (Unreadable p) = 1
refusal_number (TooLarge p) = 2
refusal_number (TooLittleMemory p) = 3

abbrev pub refusal_place : Refusal → ℕ
refusal_place (Unreadable p) = p
refusal_place (TooLarge p) = p
refusal_place (TooLittleMemory p) = p

-- how a refusal is printed
abbrev pub refusal_bytes : Refusal → List ℕ
refusal_bytes r = codes "refused " ++ (decimal (refusal_number r) ++ (codes " at " ++ decimal (refusal_place r)))

-- a pass over a text: a value if it finds no fault, else a refusal at the fault's place
abbrev pub passed_with : {A : Type 0} → (ℕ → Refusal) → A → Fault → Result A Refusal
passed_with k a fine = Ok a
passed_with k a (at p) = Err (k p)

-- what is answered where a text is only looked at: how many tokens it has, braces counted, or the refusal
abbrev pub Checked : Result ℕ Refusal → Read → Type 0
Checked (Ok n) (tokens ts) = n ≡ size ts
Checked (Ok n) (refused k p) = ⊥
Checked (Err e) (tokens ts) = ⊥
Checked (Err e) (refused k p) = (refusal_number e ≡ k) × (refusal_place e ≡ p)
