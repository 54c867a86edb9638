use Rattle.std.proofs.Common.{◌≡◌, ℕ, ◌+◌, ◌%◌, ◌<◌, ◌≤◌, List, [], ◌∷◌, length, refl, ap, ◌∙◌, arith}
use Rattle.tokens.specs.Stored.{decode}
use Rattle.path.specs.Path.{Paint}
use Rattle.machine.specs.Machine.{begin}
use Rattle.machine.specs.Laws.{state_of}
use Rattle.machine.specs.Stage.{run_of}
use Rattle.machine.specs.Abstraction.{Past}
use Rattle.run.specs.Sinks.{past_of, all_painted, all_shown, told}
use Rattle.run.proofs.Driving.{goes_on}
use Rattle.run.proofs.count.count_pages.Goals as goal

abbrev paint : Paint → ℕ → ℕ
paint p n = n

abbrev page : ℕ → ℕ
page n = (n + 1) % 4294967296

unchanged : (ps : List Paint) (v : ℕ) → all_painted paint ps v ≡ v
unfolding all_painted
unchanged [] v = refl
unchanged (p ∷ ps) v = unchanged ps v

-- each page shown counts one
counted : (gs : List (List Paint)) (v : ℕ) → all_shown paint page gs v % 4294967296 ≡ (v + length gs) % 4294967296
unfolding all_shown
counted [] v = omega arith
counted (ps ∷ gs) v =
    let e = ap (λ x. all_shown paint page gs (page x) % 4294967296) (unchanged ps v) in
    let h = counted gs (page v) in
    omega arith

below : (gs : List (List Paint)) (v : ℕ) → v < 4294967296 → all_shown paint page gs v < 4294967296
unfolding all_shown
below [] v h = h
below (ps ∷ gs) v h = below gs _ (omega arith)

-- there are no more pages than steps, so the count does not go round
exact : (k n : ℕ) (t : Past) → k ≡ told paint page t 0 → length t.pages ≤ n → n < 4294967296 → k ≡ length t.pages
exact k n t e few small =
    let seen = e ∙ unchanged t.paints (all_shown paint page t.pages 0) in
    let many = counted t.pages 0 in
    let less = below t.pages 0 (omega arith) in
    omega arith

pub returns : goal.returns
returns g c =
    let d = c.run_job-ending.ensures.driven in
    let runs = goes_on c.run_job-ending.result d.enough in
    let all = d.whole runs in
    let first = begin (decode c.args.tokens.now) in
    record {
      pages = exact _ d.taken (past_of (run_of g.S.Stage.can d.taken first)) d.seen d.few (omega arith) ∙ ap (λ n. length (state_of (run_of g.S.Stage.can n first)).pages) all;
      words = c.run_job-ending.ensures.words;
      clips = c.run_job-ending.ensures.clips;
      whole = runs;
      unsupported = c.run_job-ending.ensures.unsupported;
      ended = d.ended runs;
    }
