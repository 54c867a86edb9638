-- Listing what a job paints, from its text on: what is answered, and what the lent memory holds then. Cited by the contract of `list_paints`. Assumes nothing: these are definitions.
use Rattle.std.specs.Prelude.{◌≡◌, ℕ, ◌+◌, ◌*◌, ◌≤◌, min, cond, List, ◌++◌, length, take, drop, replicate, Ok, Err, Result, nat_le}
use Rattle.tokens.specs.Token.{Tokens, size}
use Rattle.tokens.specs.Stored.{all_stored}
use Rattle.lexer.specs.Reading.{Read, refused, tokens}
use Rattle.text.specs.declared.refusal.Refusal.{Refusal}
use Rattle.text.specs.Refusing.{refusal_number, refusal_place}
use Rattle.machine.specs.Machine.{run, begin}
use Rattle.machine.specs.Laws.{state_of}
use Rattle.listing.specs.Lines.{listing_of}

-- what a text comes to: it is refused by a number at a place; or so many words at the front are used, and this is its listing
pub data Listed : Type 0 where
  not_listed : ℕ → ℕ → Listed
  listed : ℕ → List ℕ → Listed

abbrev pub job_listing : Tokens → ℕ → List ℕ
job_listing ts steps = listing_of (state_of (run steps (begin ts)))

-- the first that applies: the text is refused, there are too many steps, or fewer words are lent than opening asks for where nothing is kept
abbrev pub listed_by : Read → ℕ → ℕ → Listed
listed_by (refused k p) steps lent = not_listed k p
listed_by (tokens ts) steps lent =
    cond (nat_le steps 1000000000) (cond (nat_le (2 * size ts + 6148) lent) (listed (length (all_stored ts) + 6144) (job_listing ts steps)) (not_listed 3 0)) (not_listed 2 0)

-- The answer is the listing's length, or 2^64 - 1 if it is longer. As much of it as fits is at the front of the bytes, the words that were used are 0, and all
-- others are as they were; a refusal leaves all as it was. Words and bytes are given before and after
abbrev pub ListedAs : Result ℕ Refusal → Listed → List ℕ → List ℕ → List ℕ → List ℕ → Type 0
ListedAs (Ok n) (listed used text) ws bs vs cs =
    (n ≡ min (length text) 18446744073709551615) × (vs ≡ replicate used 0 ++ drop used ws) × (cs ≡ take (length bs) text ++ drop (length text) bs)
ListedAs (Ok n) (not_listed k p) ws bs vs cs = ⊥
ListedAs (Err e) (listed used text) ws bs vs cs = ⊥
ListedAs (Err e) (not_listed k p) ws bs vs cs = (refusal_number e ≡ k) × (refusal_place e ≡ p) × (vs ≡ ws) × (cs ≡ bs)

-- whether a text is listed, before anything is written
abbrev pub Judged : Result ℕ Refusal → Read → ℕ → ℕ → Type 0
Judged (Err e) r steps lent = listed_by r steps lent ≡ not_listed (refusal_number e) (refusal_place e)
Judged (Ok n) (refused k p) steps lent = ⊥
Judged (Ok n) (tokens ts) steps lent = (n ≡ steps) × (2 * size ts + 6148 ≤ lent) × (listed_by (tokens ts) steps lent ≡ listed (length (all_stored ts) + 6144) (job_listing ts steps))
