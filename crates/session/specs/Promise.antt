-- What is promised of a printer, each a statement whose proof is owed where a function's contract names it. Cited by `open`, `ask` and the functions that carry the promises. Assumes nothing: these are definitions.
use Rattle.std.specs.Prelude.{◌≡◌, ℕ, ◌+◌, ◌*◌, ◌≤◌, Bool, true, false, ◌&&◌, ◌⊎◌, List, [], ◌∷◌, length, nat_le, nat_lt}
use Rattle.tokens.specs.Token.{Tokens, size}
use Rattle.lexer.specs.Reading.{Read, refused, tokens, read}
use Rattle.session.specs.Jobs.{Job, good_size, Asked, Answer, answers}

-- A printer is what the contracts of `open` and `ask` say, and nothing else: its state is the lent memory, in which the tokens of the job stand by themselves
pub record Memory : Type 0 where
  pub text : List ℕ
  pub words : List ℕ
  pub bytes : List ℕ

pub data Opened : Type 0 where
  turned_away : ℕ → ℕ → Opened
  ready : Memory → Opened

-- a text; how many steps its job may take, how wide and tall its pages are, how many numbers may be kept; and how many numbers and bytes are lent
pub record Order : Type 0 where
  pub bytes : List ℕ
  pub steps : ℕ
  pub wide : ℕ
  pub tall : ℕ
  pub kept : ℕ
  pub words_lent : ℕ
  pub bytes_lent : ℕ

pub record Printer : Type 0 where
  pub opens : Order → Opened
  pub next : Memory → Asked → Memory
  pub says : Memory → Asked → Answer

-- what is answered to questions one after another, and the memory after them
unfoldable pub told_by : Printer → Memory → List Asked → List Answer
told_by r m [] = []
told_by r m (q ∷ qs) = r.says m q ∷ told_by r (r.next m q) qs

unfoldable pub left_by : Printer → Memory → List Asked → Memory
left_by r m [] = m
left_by r m (q ∷ qs) = left_by r (r.next m q) qs

abbrev pub job_of : Order → Tokens → Job
job_of o ts = record { text = ts; steps = o.steps; wide = o.wide; tall = o.tall }

-- what lent memory there has to be at most
abbrev pub lent_enough : Order → Tokens → Bool
lent_enough o ts = nat_le (8 * size ts + o.kept + 8192) o.words_lent && nat_le (64 * o.wide + 4096) o.bytes_lent

unfoldable pub all_below : ℕ → List ℕ → Bool
all_below k [] = true
all_below k (x ∷ xs) = nat_lt x k && all_below k xs

-- what opening comes to, by what reading the text does: turned away by the first number that applies, at its place; or a memory from which every list of
-- questions gets the written machine's answers, and that stays within what is lent
unfoldable pub GoodOpening : (ℕ → Bool) → Printer → Order → Read → Opened → Type 0
GoodOpening can r o (refused k p) (turned_away j q) = (j ≡ k) × (q ≡ p)
GoodOpening can r o (refused k p) (ready m) = ⊥
GoodOpening can r o (tokens ts) (turned_away j q) =
    ((j ≡ 2) × (q ≡ 0) × (good_size o.steps o.wide o.tall ≡ false)) ⊎ ((j ≡ 3) × (q ≤ 1) × (lent_enough o ts ≡ false) × (good_size o.steps o.wide o.tall ≡ true))
GoodOpening can r o (tokens ts) (ready m) =
    (good_size o.steps o.wide o.tall ≡ true)
    × ((qs : List Asked) →
    (told_by r m qs ≡ answers (job_of o ts) qs)
    × (length (left_by r m qs).text + length (left_by r m qs).words ≤ o.words_lent) × (length (left_by r m qs).bytes ≤ o.bytes_lent) × (length (left_by r m qs).words ≤ o.kept + 8192)
    × (all_below 18446744073709551616 (left_by r m qs).text ≡ true) × (all_below 18446744073709551616 (left_by r m qs).words ≡ true) × (all_below 256 (left_by r m qs).bytes ≡ true))

-- orders whose numbers are ones that a caller can hand over: bytes, and words of 64 bits
abbrev pub carried : Order → Bool
carried o = all_below 256 o.bytes && all_below 18446744073709551616 (o.steps ∷ (o.wide ∷ (o.tall ∷ (o.kept ∷ (o.words_lent ∷ (o.bytes_lent ∷ []))))))

-- THE MAIN PROMISE, for the operators that a stage can do
unfoldable pub Right : (ℕ → Bool) → Printer → Type 0
Right can r = (o : Order) → carried o ≡ true → GoodOpening can r o (read can o.bytes) (r.opens o)

-- from this memory on, every list of questions gets the answers of this job
abbrev pub Serves : Printer → Job → Memory → Type 0
Serves r j m = (qs : List Asked) → told_by r m qs ≡ answers j qs
