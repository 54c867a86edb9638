-- What a sink that lists has written when a job has painted and shown so much.
use Rattle.std.proofs.Common.{◌≡◌, ℕ, ◌+◌, ◌<◌, ◌≤◌, min, Bool, true, false, cond, List, [], ◌∷◌, ◌++◌, length, take, drop, sym, refl, ap, ◌∙◌, inl, inr, arith}
use Rattle.std.specs.List.{flat_map}
use Rattle.std.proofs.lemmas.Bool.{cases_Bool, true≢false}
use Rattle.path.specs.Path.{Paint}
use Rattle.machine.specs.Machine.{run, State}
use Rattle.machine.specs.Laws.{state_of}
use Rattle.run.specs.declared.drive.Ending.{Ending}
use Rattle.run.specs.Sinks.{is_stopped, all_painted, all_shown, past_of, told, Driven}
use Rattle.listing.specs.Lines.{thing_lines, page_line, page_lines, unshown_line, unshown_lines, listing, listing_of}
use Rattle.listing.specs.Output.{Output, output, put_text, Wrote}
use Rattle.listing.specs.Views.{Told, telling, mark_of, with_thing, with_shown}
use Rattle.listing.proofs.Writing.{wrote_none, put_append, then, same_text, written}

-- whether anything is painted since the last page, once these things are
abbrev left : Bool → List Paint → Bool
left u [] = u
left u (p ∷ ps) = true

all_left : (ps : List Paint) → left true ps ≡ true
all_left [] = refl
all_left (p ∷ ps) = refl

-- painting writes the things' lines
painting : (ps : List Paint) (o : Output) (k : ℕ) (u : Bool) → all_painted with_thing ps (telling o k u) ≡ telling (put_text (flat_map thing_lines ps) o) k (left u ps)
unfolding all_painted
painting [] o k u = ap (λ z. telling z k u) (wrote_none o).is
painting (p ∷ ps) o k u =
    painting ps (put_text (thing_lines p) o) k true
    ∙ ap (λ z. telling z k (left true ps)) (sym (put_append (thing_lines p) (flat_map thing_lines ps) o))
    ∙ ap (telling (put_text (flat_map thing_lines (p ∷ ps)) o) k) (all_left ps)

-- and showing each page's lines, while pages can be counted
showing : (gs : List (List Paint)) (o : Output) (k : ℕ) → k + length gs < 18446744073709551616 →
    (n : ℕ) × (all_shown with_thing with_shown gs (telling o k false) ≡ telling (put_text (page_lines (k + 1) gs) o) n false)
unfolding all_shown page_lines
showing [] o k lt = (k, ap (λ z. telling z k false) (wrote_none o).is)
showing (ps ∷ gs) o k lt =
    let next : min (k + 1) 18446744073709551615 ≡ k + 1 = omega arith in
    let things = flat_map thing_lines ps in
    let later = page_lines (k + 1 + 1) gs in
    let rest = showing gs (put_text (page_line (k + 1)) (put_text things o)) (k + 1) (omega arith) in (
      rest.0,
      ap (λ t. all_shown with_thing with_shown gs (with_shown t)) (painting ps o k false)
          ∙ ap (λ n. all_shown with_thing with_shown gs (telling (put_text (page_line n) (put_text things o)) n false)) next
          ∙ rest.1
          ∙ ap (λ z. telling z rest.0 false) (sym (put_append things (page_line (k + 1) ++ later) o ∙ put_append (page_line (k + 1)) later (put_text things o))),
    )

-- the mark is written where something is left
marked : (ps : List Paint) → flat_map thing_lines ps ++ cond (left false ps) unshown_line [] ≡ unshown_lines ps
unfolding unshown_lines
marked [] = refl
marked (p ∷ ps) = refl

-- a run that a listing was told of from the first, and what stands there once the mark is written
module _ (bs : List ℕ) (steps : ℕ) (s : State) (r : Ending) (before after : Told) (end : Output) (room : length bs < 18446744073709551616) (short : steps < 18446744073709551616)
    (first : before ≡ telling (output 0 bs) 0 false) (d : Driven run with_thing with_shown (λ t. true) r steps s before after) (mark : Wrote (mark_of after) after.output end) where
  runs : is_stopped r ≡ false
  runs = elim (cases_Bool (is_stopped r)) [ inl e ↦ absurd (true≢false (d.enough e)) | inr e ↦ e ]

  abbrev went : State
  went = state_of (run steps s)

  seen : after ≡ told with_thing with_shown (record { paints = went.paints; pages = went.pages }) (telling (output 0 bs) 0 false)
  seen =
      d.seen
      ∙ ap (λ n. told with_thing with_shown (past_of (run n s)) before) (d.whole runs)
      ∙ ap (told with_thing with_shown (past_of (run steps s))) first

  few : length went.pages ≤ steps
  few = let e = ap (λ n. length (state_of (run n s)).pages) (d.whole runs) in omega (arith, d.few, d.within)

  listed : Wrote (listing_of went) (output 0 bs) end
  unfolding listing
  listed =
      let pages = showing went.pages (output 0 bs) 0 (let f = few in omega arith) in
      let is = seen ∙ ap (all_painted with_thing went.paints) pages.1 ∙ painting went.paints _ pages.0 false in
      let shown : Wrote (page_lines 1 went.pages) (output 0 bs) (put_text (page_lines 1 went.pages) (output 0 bs)) = record { is = refl } in
      let things : Wrote (flat_map thing_lines went.paints) (put_text (page_lines 1 went.pages) (output 0 bs)) after.output = record { is = ap (λ t. t.output) is } in
      then shown (same_text (marked went.paints) (then things (same_text (ap (λ t. cond t.unshown unshown_line []) is) mark)))

  pub all_written : end ≡ output (min (length (listing_of went)) 18446744073709551615) (take (length bs) (listing_of went) ++ drop (length (listing_of went)) bs)
  all_written = listed.is ∙ written (listing_of went) bs (omega arith)
