-- The code's sessions, orders, questions and replies as those of the promises. Cited by the contracts of `open` and `ask`. Assumes nothing: these are definitions.
use Rattle.std.specs.Prelude.{◌≡◌, ℕ, ◌+◌, ◌*◌, ◌≤◌, true, false, ◌&&◌, List, ◌++◌, take, Some, None, Ok, Err, Option, Result, codes, decimal, nat_le}
use Rattle.tokens.specs.Token.{Tokens, size}
use Rattle.tokens.specs.Stage.{whole}
use Rattle.lexer.specs.Reading.{Read, tokens, read}
use Rattle.lexer.specs.Reading as reading
use Rattle.text.specs.declared.refusal.Refusal.{Refusal}
use Rattle.text.specs.Refusing.{refusal_number, refusal_place}
use Rattle.session.specs.Jobs.{Asked, how_it_ends, band, Answer, ended, dots, refused}
use Rattle.session.specs.Promise.{Memory, Opened, turned_away, ready, Order, job_of, Serves}
use Rattle.session.specs.Regions.{Regions, joined, width_in, height_in, first_regions, opened_by, the_printer}
use Rattle.session.specs.declared.order.Order as code
use Rattle.session.specs.declared.order.Refused.{Refused}
use Rattle.session.specs.declared.question.Question.{Question}
use Rattle.session.specs.declared.question.Question.TheVariants.{End, Band}
use Rattle.session.specs.declared.question.Reply.{Reply}
use Rattle.session.specs.declared.question.Reply.TheVariants.{Ended, Dots, Unanswered}
use Rattle.session.specs.declared.question.Reason.{Reason}
use Rattle.session.specs.declared.question.Reason.TheVariants.{NoSuchPage, NoSuchRows}
use Rattle.session.specs.declared.session.Session.{Session}
use Rattle.raster.specs.declared.band.Band as rows_of_lem

abbrev pub regions_of : Session → Regions
regions_of s = record { text = s.text.now; header = s.header.now; path = s.path.now; clips = s.clips.now; kept = s.kept.now; bytes = s.bytes.now }

abbrev pub memory_of : Session → Memory
memory_of s = joined (regions_of s)

abbrev pub asked_of : Question → Asked
asked_of End = how_it_ends
asked_of (Band p y n) = band p y n

-- the numbers and places by which a question is refused
abbrev pub reason_number : Reason → ℕ
reason_number NoSuchPage = 4
reason_number NoSuchRows = 5

abbrev pub reason_place : Reason → ℕ
reason_place NoSuchPage = 0
reason_place NoSuchRows = 1

-- how it is printed
abbrev pub reason_bytes : Reason → List ℕ
reason_bytes r = codes "refused " ++ (decimal (reason_number r) ++ (codes " at " ++ decimal (reason_place r)))

-- the dots of an answer are the front of the bytes
abbrev pub answer_of : Reply → List ℕ → Answer
answer_of (Ended n e) bs = ended n e
answer_of (Dots n) bs = dots (take n bs)
answer_of (Unanswered why) bs = refused (reason_number why)

abbrev pub order_of : List ℕ → code.Order → ℕ → ℕ → Order
order_of source o words bytes = record { bytes = source; steps = o.steps; wide = o.width; tall = o.height; kept = o.kept; words_lent = words; bytes_lent = bytes }

abbrev pub opened_of : Result Session Refused → Opened
opened_of (Ok s) = ready (memory_of s)
opened_of (Err e) = turned_away (refusal_number e.why) (refusal_place e.why)

-- whether a job is opened, before anything is written: what opening comes to, and that the memory suffices
abbrev pub Admitted : Result Unit Refusal → Order → Read → Type 0
Admitted (Err why) o r = opened_by o r ≡ turned_away (refusal_number why) (refusal_place why)
Admitted (Ok u) o (reading.Read.refused k p) = ⊥
Admitted (Ok u) o (tokens ts) =
    (opened_by o (tokens ts) ≡ ready (joined (first_regions o ts))) × (2 * size ts + 6148 + o.kept ≤ o.words_lent) × (64 * o.wide ≤ o.bytes_lent) × (o.wide ≤ 8192)

-- an opened session serves the job of its text: every list of questions gets the written machine's answers
abbrev pub OpenedRight : Result Session Refused → Order → Type 0
OpenedRight (Ok s) o = (ts : Tokens) × (read whole o.bytes ≡ tokens ts) × Serves the_printer (job_of o ts) (memory_of s)
OpenedRight (Err e) o = Unit {0}

-- the band of so many rows from a row on, if there are such rows on a page and room for them in the bytes
abbrev pub Within : Option rows_of_lem.Band → List ℕ → ℕ → ℕ → ℕ → Type 0
Within None header room y n = ((nat_le (y + n) (height_in header) && nat_le n 64) && nat_le (n * width_in header) room) ≡ false
Within (Some b) header room y n =
    (((nat_le (y + n) (height_in header) && nat_le n 64) && nat_le (n * width_in header) room) ≡ true) × (b.width ≡ width_in header) × (b.first ≡ y) × (b.count ≡ n)
