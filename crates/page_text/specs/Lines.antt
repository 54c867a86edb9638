-- The lines around pages, as bytes. Cited by the contracts of `lines`. Assumes nothing: these are definitions.
use Rattle.std.specs.Prelude.{ℕ, List, ◌++◌, codes, decimal}

-- the head of a PGM file: its kind, width and height, and the number that is white
abbrev pub head_bytes : ℕ → ℕ → List ℕ
head_bytes width height = codes "P5\n" ++ (decimal width ++ (codes " " ++ (decimal height ++ codes "\n255\n")))

-- by which number and at which place something is refused
abbrev pub refusal_bytes : ℕ → ℕ → List ℕ
refusal_bytes number place = codes "refused " ++ (decimal number ++ (codes " at " ++ (decimal place ++ codes "\n")))

-- how many pages a job shows, and how it ends
abbrev pub ending_bytes : ℕ → ℕ → List ℕ
ending_bytes pages ending = codes "pages " ++ (decimal pages ++ (codes " ending " ++ (decimal ending ++ codes "\n")))
