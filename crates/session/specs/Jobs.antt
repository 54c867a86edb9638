-- Jobs: what a job prints, how it ends, and what is answered about it by a machine that runs it once and has whole pages. Cited by every promise of the session. Assumes nothing: these are definitions.
use Rattle.std.specs.Prelude.{ℕ, ◌+◌, Bool, cond, ◌&&◌, List, [], ◌∷◌, length, nat_le, nat_lt, slice_index_or}
use Rattle.tokens.specs.Token.{Tokens}
use Rattle.path.specs.Path.{Paint}
use Rattle.raster.specs.Coverage.{rows}
use Rattle.machine.specs.Machine.{run, begin}
use Rattle.machine.specs.Laws.{state_of, end_of}

-- a job: its tokens, how many steps it may take, how wide and tall its pages are
pub record Job : Type 0 where
  pub text : Tokens
  pub steps : ℕ
  pub wide : ℕ
  pub tall : ℕ

-- steps, width and height in range
abbrev pub good_size : ℕ → ℕ → ℕ → Bool
good_size steps wide tall = nat_le steps 1000000000 && ((nat_le 1 wide && nat_le wide 8192) && (nat_le 1 tall && nat_le tall 65535))

-- the pages that were shown; what was painted after the last is not printed
abbrev pub shown : Job → List (List Paint)
shown j = (state_of (run j.steps (begin j.text))).pages

abbrev pub ending : Job → ℕ
ending j = end_of (run j.steps (begin j.text))

-- a question about a job: how many pages it shows and how it ends; or a band: of a page, from a row on, so many rows
pub data Asked : Type 0 where
  how_it_ends : Asked
  band : ℕ → ℕ → ℕ → Asked

pub data Answer : Type 0 where
  ended : ℕ → ℕ → Answer
  dots : List ℕ → Answer
  refused : ℕ → Answer

-- a page that was not shown is refused by 4; then rows beyond the page, and more than 64 rows, by 5
unfoldable pub answer : Job → Asked → Answer
answer j how_it_ends = ended (length (shown j)) (ending j)
answer j (band p y n) =
    cond (nat_lt p (length (shown j))) (cond (nat_le (y + n) j.tall && nat_le n 64) (dots (rows (slice_index_or (shown j) p []) j.wide y n)) (refused 5)) (refused 4)

unfoldable pub answers : Job → List Asked → List Answer
answers j [] = []
answers j (a ∷ qs) = answer j a ∷ answers j qs
