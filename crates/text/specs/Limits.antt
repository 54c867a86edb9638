-- What one lexeme does to the counts that a text's limits are about. Cited by the contracts of the pass over the limits. Assumes nothing: these are definitions.
use Rattle.std.specs.Prelude.{◌≡◌, ℕ, ◌+◌, Bool, List, ◌∷◌, Some, None, Option}
use Rattle.lexer.specs.declared.Lexeme.{Lexeme}
use Rattle.lexer.specs.declared.Lexeme.TheVariants.{End, Open, Close, Number, Word, Quoted, Wrong}
use Rattle.text.specs.declared.check.Counts.{Counts}
use Rattle.lexer.specs.Reading.{Piece, Fault, at, above_limit}
use Rattle.words.specs.Naming.{words_of}
use Rattle.words.specs.declared.names.Names.{Names}
use Rattle.words.specs.Meaning.{Stands}

-- where a lexeme begins; the end of the text is none
abbrev pub place_in : Lexeme → Option ℕ
place_in End = None
place_in (Open p) = Some p
place_in (Close p) = Some p
place_in (Number p v) = Some p
place_in (Word p w) = Some p
place_in (Quoted p w) = Some p
place_in (Wrong p) = Some p

-- the limits of what is left of a text, with the counts so far and the table of names
abbrev pub limits : (ℕ → Bool) → List Piece → Counts → Names → Fault
limits can ps c n = above_limit ps can c.tokens c.depth (words_of n)

-- a lexeme is admitted, and what is left decides; or it is above a limit, and its place is the fault's
abbrev pub Admits : (ℕ → Bool) → Option Counts → Lexeme → Counts → Names → Names → Type 0
Admits can None x c n m = (q : Piece) (p : ℕ) (ps : List Piece) → Stands x q → place_in x ≡ Some p → limits can (q ∷ ps) c n ≡ at p
Admits can (Some d) x c n m = (q : Piece) (ps : List Piece) → Stands x q → (d.tokens ≡ c.tokens + 1) × (limits can (q ∷ ps) c n ≡ limits can ps d m)
