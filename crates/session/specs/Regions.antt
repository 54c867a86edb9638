-- The lent memory of a session as its regions: what stands in them after opening, what is answered from them, and what asking leaves. Cited by the contracts of `open` and `ask`. Assumes nothing: these are definitions.
use Rattle.std.specs.Prelude.{◌≡◌, ℕ, ◌+◌, ◌*◌, ◌≤◌, min, cond, ◌&&◌, List, [], ◌∷◌, ◌++◌, length, take, drop, replicate, nat_le, nat_lt, slice_index, slice_index_or}
use Rattle.tokens.specs.Token.{Tokens, size}
use Rattle.tokens.specs.Stored.{decode, all_stored}
use Rattle.tokens.specs.Stage.{whole}
use Rattle.lexer.specs.Reading.{Read, tokens, read}
use Rattle.lexer.specs.Reading as reading
use Rattle.path.specs.Path.{Paint}
use Rattle.raster.specs.Coverage.{rows}
use Rattle.machine.specs.Machine.{Went, run, begin}
use Rattle.machine.specs.Laws.{state_of, end_of}
use Rattle.session.specs.Jobs.{good_size, Asked, how_it_ends, band, Answer, ended, dots, refused}
use Rattle.session.specs.Promise.{Memory, Opened, turned_away, ready, Order, Printer}

-- how many words there are for a path, and for the clips in force
unfoldable pub path_room : ℕ
path_room = 3072

unfoldable pub clip_room : ℕ
clip_room = 3072

-- the job's tokens, its header (steps, width, height, how many numbers may be kept), what a run has for a path and for clips, what is kept, and the rows
pub record Regions : Type 0 where
  pub text : List ℕ
  pub header : List ℕ
  pub path : List ℕ
  pub clips : List ℕ
  pub kept : List ℕ
  pub bytes : List ℕ

abbrev pub regs : List ℕ → List ℕ → List ℕ → List ℕ → List ℕ → List ℕ → Regions
regs t h p c k b = record { text = t; header = h; path = p; clips = c; kept = k; bytes = b }

-- the regions but the tokens are one row of words
abbrev pub joined : Regions → Memory
joined g = record { text = g.text; words = g.header ++ (g.path ++ (g.clips ++ g.kept)); bytes = g.bytes }

abbrev pub cut : Memory → Regions
cut m =
    record {
      text = m.text;
      header = take 4 m.words;
      path = take path_room (drop 4 m.words);
      clips = take clip_room (drop (4 + path_room) m.words);
      kept = drop (4 + path_room + clip_room) m.words;
      bytes = m.bytes;
    }

-- the regions as opening cuts them
abbrev pub Shaped : Regions → Type 0
Shaped g = (length g.header ≡ 4) × (length g.path ≡ path_room) × (length g.clips ≡ clip_room)

-- there is room for a path and for clips
abbrev pub Roomy : Regions → Type 0
Roomy g = (3072 ≤ length g.path) × (3072 ≤ length g.clips)

-- steps, width and height as the header has them, cut to their ranges: any words are some header
abbrev pub steps_in : List ℕ → ℕ
steps_in h = min (slice_index h 0) 1000000000

abbrev pub width_in : List ℕ → ℕ
width_in h = min (slice_index h 1) 8192

abbrev pub height_in : List ℕ → ℕ
height_in h = min (slice_index h 2) 65535

-- where the job that stands in the tokens comes to
unfoldable pub run_of : List ℕ → List ℕ → Went
run_of text header = run (steps_in header) (begin (decode text))

abbrev pub pages_at : List ℕ → List ℕ → List (List Paint)
pages_at text header = (state_of (run_of text header)).pages

abbrev pub ending_at : List ℕ → List ℕ → ℕ
ending_at text header = end_of (run_of text header)

-- from pages, an ending, a width and a height; room is how many bytes there are for rows
unfoldable pub answer_in : ℕ → List (List Paint) → ℕ → ℕ → ℕ → Asked → Answer
answer_in room ps e w t how_it_ends = ended (length ps) e
answer_in room ps e w t (band p y n) =
    cond (nat_lt p (length ps)) (cond ((nat_le (y + n) t && nat_le n 64) && nat_le (n * w) room) (dots (rows (slice_index_or ps p []) w y n)) (refused 5)) (refused 4)

-- a session with too little room for a path or for clips, which opening never makes, answers nothing
abbrev pub says_in : Regions → Asked → Answer
says_in g q =
    cond (nat_le path_room (length g.path) && nat_le clip_room (length g.clips))
    (answer_in (length g.bytes) (pages_at g.text g.header) (ending_at g.text g.header) (width_in g.header) (height_in g.header) q) (refused 5)

-- rows stand at the front of the bytes; a refusal leaves zeros
unfoldable pub put_answer : Answer → List ℕ → List ℕ
put_answer (ended n e) bs = bs
put_answer (dots ds) bs = ds ++ drop (length ds) bs
put_answer (refused k) bs = replicate (length bs) 0

abbrev pub next_in : Regions → Asked → Regions
next_in g q =
    record {
      text = g.text;
      header = g.header;
      path = replicate (length g.path) 0;
      clips = replicate (length g.clips) 0;
      kept = g.kept;
      bytes = put_answer (says_in g q) g.bytes;
    }

abbrev pub first_regions : Order → Tokens → Regions
first_regions o ts =
    record {
      text = all_stored ts;
      header = o.steps ∷ (o.wide ∷ (o.tall ∷ (o.kept ∷ [])));
      path = replicate path_room 0;
      clips = replicate clip_room 0;
      kept = replicate o.kept 0;
      bytes = replicate (64 * o.wide) 0;
    }

-- how many numbers a job asks for: two for each token, braces counted, the header, a path and clips, and those that may be kept
abbrev pub words_asked : Order → Tokens → ℕ
words_asked o ts = 2 * size ts + (4 + path_room + clip_room) + o.kept

unfoldable pub opened_by : Order → Read → Opened
opened_by o (reading.Read.refused k p) = turned_away k p
opened_by o (tokens ts) =
    cond (good_size o.steps o.wide o.tall)
    (cond (nat_le (words_asked o ts) o.words_lent) (cond (nat_le (64 * o.wide) o.bytes_lent) (ready (joined (first_regions o ts))) (turned_away 3 1)) (turned_away 3 0))
    (turned_away 2 0)

abbrev pub opens_as : Order → Opened
opens_as o = opened_by o (read whole o.bytes)

abbrev pub the_printer : Printer
the_printer = record { opens = opens_as; next = λ m q. joined (next_in (cut m) q); says = λ m q. says_in (cut m) q }
