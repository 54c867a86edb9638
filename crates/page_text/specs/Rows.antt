-- Rows of a page: what a band put into its place comes to, and what asking for rows does. Cited by the contracts of `put_band` and `rows_between`. Assumes nothing: these are definitions.
use Rattle.std.specs.Prelude.{◌≡◌, ℕ, ◌+◌, ◌*◌, ◌<◌, ◌≤◌, cond, List, [], ◌++◌, length, take, drop, Ok, Err, Result, nat_le, nat_lt, slice_index_or}
use Rattle.raster.specs.Coverage.{rows}
use Rattle.session.specs.Jobs.{Job, shown}
use Rattle.session.specs.declared.question.Reason.TheVariants.{NoSuchPage, NoSuchRows}
use Rattle.page_text.specs.declared.page.Missing.{Missing}
use Rattle.page_text.specs.declared.page.Missing.TheVariants.{NoRoom, Unanswered}

-- a band of n rows from row y on was asked for: it stands at its place, and the end is told; or nothing was put, since there is no such page or it has no such rows
abbrev pub Placed : Result ℕ Missing → Job → ℕ → ℕ → ℕ → ℕ → List ℕ → List ℕ → Type 0
Placed (Ok end) j p y n at was out =
    (p < length (shown j)) × (y + n ≤ j.tall) × (end ≡ at + n * j.wide) × (out ≡ take at was ++ (rows (slice_index_or (shown j) p []) j.wide y n ++ drop (at + n * j.wide) was))
Placed (Err NoRoom) j p y n at was out = ⊥
Placed (Err (Unanswered NoSuchPage)) j p y n at was out = (length (shown j) ≤ p) × (out ≡ was)
Placed (Err (Unanswered NoSuchRows)) j p y n at was out = (p < length (shown j)) × (j.tall < y + n) × (out ≡ was)

-- what asking for the rows of a page up to a row comes to, where there is room for them
abbrev pub outcome : Job → ℕ → ℕ → Result Unit Missing
outcome j p to = cond (nat_lt p (length (shown j))) (cond (nat_le to j.tall) (Ok tt) (Err (Unanswered NoSuchRows))) (Err (Unanswered NoSuchPage))
