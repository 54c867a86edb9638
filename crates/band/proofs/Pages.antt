-- Which page a band is of, and a run that is left once that page is shown.
use Rattle.std.proofs.Common.{◌≡◌, ℕ, zero, suc, ◌+◌, ◌-◌, ◌<◌, ◌≤◌, true, false, cond, not, ◌&&◌, eqb, ltb, List, [], ◌∷◌, ◌++◌, length, get_or, drop, replicate, sym, refl, ap, ◌∙◌, inl, inr, arith}
use Rattle.std.proofs.lemmas.List.{length-append, get_or_append_left}
use Rattle.std.proofs.lemmas.Bool.{lt-ltb, le-ltb, ne_eqb, cases_lt, cases_Bool, cond_both, true≢false}
use Rattle.path.specs.Path.{Paint}
use Rattle.machine.specs.Machine.{State, run}
use Rattle.machine.specs.Laws.{state_of, begins_with}
use Rattle.machine.proofs.Showing.{longer_run}
use Rattle.run.specs.declared.drive.Ending.{Ending}
use Rattle.run.specs.Sinks.{is_stopped, all_painted, all_shown, past_of, told, Driven}
use Rattle.raster.specs.declared.band.Band.{Band}
use Rattle.band.specs.Canvas.{Canvas, fits, on_page, paint_onto, page_over}
use Rattle.band.proofs.Painting.{size, band_rows, canvas, all_fits, white_rows, all_on_page, off_page}

-- a band whose page was shown stays as it is
pages_after : (gs : List (List Paint)) (b : Band) (k : ℕ) (bs : List ℕ) → all_shown paint_onto page_over gs (canvas b k true bs) ≡ canvas b k true bs
unfolding all_shown
pages_after [] b k bs = refl
pages_after (ps ∷ gs) b k bs = ap (λ c. all_shown paint_onto page_over gs (page_over c)) (off_page ps (canvas b k true bs) refl) ∙ pages_after gs b k bs

-- and so does one before its page, but for the count of pages
page_before : (ps : List Paint) (b : Band) (k : ℕ) (bs : List ℕ) → page_over (all_painted paint_onto ps (canvas b (suc k) false bs)) ≡ canvas b k false bs
page_before ps b k bs =
    let e : eqb (suc k) 0 ≡ false = ne_eqb (suc k) 0 (λ h. omega arith) in
    let less : suc k - 1 ≡ k = omega arith in
    ap page_over (off_page ps (canvas b (suc k) false bs) (ap (λ z. z && fits b (length bs)) e))
    ∙ ap (λ z. cond z (canvas b 0 true bs) (canvas b (suc k - 1) false bs)) e
    ∙ ap (λ n. canvas b n false bs) less

pages_before : (gs : List (List Paint)) (b : Band) (k : ℕ) (bs : List ℕ) → length gs ≤ k → (all_shown paint_onto page_over gs (canvas b k false bs)).done ≡ false
unfolding all_shown
pages_before [] b k bs le = refl
pages_before (ps ∷ gs) b zero bs le = let no : ⊥ = omega arith in absurd no
pages_before (ps ∷ gs) b (suc k) bs le = ap (λ c. (all_shown paint_onto page_over gs c).done) (page_before ps b k bs) ∙ pages_before gs b k bs (omega arith)

-- the page itself: white at first, and then all its things
page_reached : (b : Band) (rest : List ℕ) → fits b (size b + length rest) ≡ true → (gs : List (List Paint)) (k : ℕ) → k < length gs →
    all_shown paint_onto page_over gs (canvas b k false (band_rows [] b ++ rest)) ≡ canvas b 0 true (band_rows (get_or gs k []) b ++ rest)
unfolding all_shown
page_reached b rest ok [] k lt = let no : ⊥ = omega arith in absurd no
page_reached b rest ok (ps ∷ gs) zero lt =
    ap (λ c. all_shown paint_onto page_over gs (page_over c)) (all_on_page b rest ok ps [])
    ∙ pages_after gs b 0 (band_rows ps b ++ rest)
page_reached b rest ok (ps ∷ gs) (suc k) lt =
    ap (all_shown paint_onto page_over gs) (page_before ps b k (band_rows [] b ++ rest)) ∙ page_reached b rest ok gs k (omega arith)

-- painting shows no page
done_kept : (ps : List Paint) (c : Canvas) → (all_painted paint_onto ps c).done ≡ c.done
unfolding all_painted
done_kept [] c = refl
done_kept (p ∷ ps) c = done_kept ps (paint_onto p c) ∙ cond_both (on_page c) _ c (λ z. z.done ≡ c.done) (λ _. refl) (λ _. refl)

-- a run for a band of page k over bytes whose rows are white at first, and what its sink has come to
module _ (b : Band) (bs white : List ℕ) (k steps : ℕ) (s : State) (r : Ending) (after : Canvas) (few : size b ≤ length bs)
    (whitened : white ≡ replicate (size b) 255 ++ drop (size b) bs) (d : Driven run paint_onto page_over (λ c. not c.done) r steps s (canvas b k false white) after) where
  abbrev rest : List ℕ
  rest = drop (size b) bs

  -- the pages shown up to where the run was left, and all that it would have shown
  abbrev part : List (List Paint)
  part = (state_of (run d.taken s)).pages

  abbrev whole : List (List Paint)
  whole = (state_of (run steps s)).pages

  first_pages : begins_with whole part
  first_pages =
      let more = longer_run d.taken (steps - d.taken) s in
      let all : d.taken + (steps - d.taken) ≡ steps = (let w = d.within in omega arith) in
      (more.0, sym (ap (λ n. (state_of (run n s)).pages) all) ∙ more.1)

  seen : after ≡ told paint_onto page_over (past_of (run d.taken s)) (canvas b k false (band_rows [] b ++ rest))
  seen =
      d.seen
      ∙ ap (λ z. told paint_onto page_over (past_of (run d.taken s)) (canvas b k false z))
      (whitened ∙ ap (λ z. z ++ rest) (sym (white_rows b.width b.first b.count)))

  reached : k < length part → after ≡ canvas b 0 true (band_rows (get_or part k []) b ++ rest)
  reached lt =
      let ps = (state_of (run d.taken s)).paints in
      seen ∙ ap (all_painted paint_onto ps) (page_reached b rest (all_fits b (size b + length rest) (omega arith)) part k lt) ∙ off_page ps (canvas b 0 true (band_rows (get_or part k []) b ++ rest)) refl

  missed : length part ≤ k → after.done ≡ false
  missed le = ap (λ c. c.done) seen ∙ done_kept (state_of (run d.taken s)).paints _ ∙ pages_before part b k (band_rows [] b ++ rest) le

  -- only a band that is done leaves a run before its end
  ran_whole : after.done ≡ false → d.taken ≡ steps
  ran_whole e = elim (cases_Bool (is_stopped r)) [ inl stops ↦ absurd (true≢false (sym (ap not e) ∙ d.enough stops)) | inr runs ↦ d.whole runs ]

  done_is : after.done ≡ ltb k (length whole)
  done_is =
      elim (cases_lt k (length part)) [
        | inl lt ↦
            let more = first_pages in
            let l = ap length more.1 in
            let a = length-append part more.0 in
            ap (λ c. c.done) (reached lt) ∙ sym (lt-ltb k (length whole) (omega arith))
        | inr le ↦
            let l : length part ≡ length whole = ap (λ n. length (state_of (run n s)).pages) (ran_whole (missed le)) in
            missed le ∙ sym (le-ltb k (length whole) (omega arith))
      ]

  -- a page shown stays, so the band is one of the whole run
  bytes_are : after.done ≡ true → after.bytes ≡ band_rows (get_or whole k []) b ++ rest
  bytes_are e =
      elim (cases_lt k (length part)) [
        | inl lt ↦
            let more = first_pages in
            ap (λ c. c.bytes) (reached lt)
            ∙ ap (λ g. band_rows g b ++ rest) (sym (get_or_append_left part more.0 [] k lt) ∙ sym (ap (λ gs. get_or gs k []) more.1))
        | inr le ↦ absurd (true≢false (sym e ∙ missed le))
      ]

  pub comes_to : (after.done ≡ ltb k (length whole)) × (after.done ≡ true → after.bytes ≡ band_rows (get_or whole k []) b ++ rest)
  comes_to = (done_is, bytes_are)
