use Rattle.std.proofs.Common.{◌≡◌, ℕ, ◌+◌, ◌-◌, ◌*◌, ◌≤◌, [], ◌++◌, false, length, get_or, drop, is_ok, Ok, Err, Result, sym, refl, ap, ◌∙◌, subst, zero-mul, arith}
use Rattle.std.proofs.lemmas.Result.{IfOk-at_ok, err_from_is_err_and}
use Rattle.raster.specs.Coverage.{rows}
use Rattle.session.specs.Jobs.{Job, shown}
use Rattle.session.specs.Promise.{Serves}
use Rattle.session.specs.Regions.{Shaped, the_printer}
use Rattle.session.specs.Views.{regions_of, memory_of}
use Rattle.page_text.specs.Rows.{Placed}
use Rattle.page_text.specs.declared.page.Missing.{Missing}
use Rattle.page_text.proofs.Answered.{outcome_whole, outcome_missing, none_missing}
use Rattle.page_text.proofs.Bands.{band_more, band_fits}
use Rattle.page_text.proofs.page.rows_between.Goals as goal
use Rattle.page_text.proofs.page.rows_between.Goals.{After-put_band}

pub loop-at-init : goal.loop-at-init
unfolding rows
loop-at-init c =
    let none : c.args.rows.from - c.args.rows.from ≡ 0 = omega arith in (
      omega arith,
      omega arith,
      omega arith,
      λ j h s.
          let zero : 0 ≡ (c.args.rows.from - c.args.rows.from) * j.wide = sym (ap (λ z. z * j.wide) none ∙ zero-mul j.wide) in (
            h,
            s,
            λ w. (
              zero,
              ap (λ z. drop z c.args.out.now) zero ∙ sym (ap (λ z. rows (get_or (shown j) c.args.rows.page []) j.wide c.args.rows.from z ++ drop ((c.args.rows.from - c.args.rows.from) * j.wide) c.args.out.now) none),
            ),
          ),
    )

ends : (c : After-put_band) → c.loop-at.y + c.min-n.result ≤ c.args.rows.to
ends c = omega arith

serves : (c : After-put_band) (j : Job) → Shaped (regions_of c.args.s.now) → Serves the_printer j (memory_of c.args.s.now) → Shaped (regions_of c.put_band.new.s) × Serves the_printer j (memory_of c.put_band.new.s)
serves c j h s = let i = c.loop-at.invariant.3 j h s in c.put_band.ensures.serves j i.0 i.1

-- what the band comes to, which has room since all rows have
placed : (c : After-put_band) (j : Job) → Shaped (regions_of c.args.s.now) → Serves the_printer j (memory_of c.args.s.now) → c.args.width ≡ j.wide →
    Placed c.put_band.result j c.args.rows.page c.loop-at.y c.min-n.result c.loop-at.at c.loop-at.out c.put_band.new.out
placed c j h s w =
    let i = c.loop-at.invariant.3 j h s in
    let fits =
    band_fits c.args.rows.from c.loop-at.y c.min-n.result c.args.rows.to j.wide c.args.width c.loop-at.at (length c.loop-at.out) c.loop-at.invariant.0 (ends c) (i.2 w).0 w
    (omega (arith, c.loop-at.auto.out)) in
    c.put_band.ensures.right j i.0 i.1 (omega arith) fits

placed_here : (c : After-put_band) (end : ℕ) → c.put_band.result ≡ Ok end → (j : Job) → Shaped (regions_of c.args.s.now) → Serves the_printer j (memory_of c.args.s.now) → c.args.width ≡ j.wide →
    Placed (Ok end) j c.args.rows.page c.loop-at.y c.min-n.result c.loop-at.at c.loop-at.out c.put_band.new.out
placed_here c end is j h s w =
    subst (λ z. Placed z j c.args.rows.page c.loop-at.y c.min-n.result c.loop-at.at c.loop-at.out c.put_band.new.out) is (placed c j h s w)

-- the rows up to before the band's end stand in their places
more : (c : After-put_band) (end : ℕ) → c.put_band.result ≡ Ok end → (j : Job) → Shaped (regions_of c.args.s.now) → Serves the_printer j (memory_of c.args.s.now) → c.args.width ≡ j.wide →
    (end ≡ (c.loop-at.y + c.min-n.result - c.args.rows.from) * j.wide)
    × (c.put_band.new.out
    ≡ rows (get_or (shown j) c.args.rows.page []) j.wide c.args.rows.from (c.loop-at.y + c.min-n.result - c.args.rows.from) ++ drop ((c.loop-at.y + c.min-n.result - c.args.rows.from) * j.wide) c.args.out.now)
more c end is j h s w =
    let i = c.loop-at.invariant.3 j h s in
    let p = placed_here c end is j h s w in
    band_more c.args.out.now c.loop-at.out c.put_band.new.out (get_or (shown j) c.args.rows.page []) j.wide c.args.rows.from c.loop-at.y c.min-n.result c.loop-at.at end c.loop-at.invariant.0
    (i.2 w) p.2 p.3

pub loop-at-preserved : goal.loop-at-preserved
loop-at-preserved c =
    let here = (goal.at.loop-at-preserved c).After-put_band in
    let is : here.put_band.result ≡ Ok c.in_ok-at.at = grind arith in (
      omega arith,
      omega arith,
      IfOk-at_ok (λ end. end ≤ length c.put_band.new.out) is c.put_band.ensures.within,
      λ j h s. let after = serves here j h s in (after.0, after.1, more here _ is j h s),
    )

pub returns-then-y-to-clause-right : goal.returns-then-y-to-clause-right
returns-then-y-to-clause-right c =
    let here = (goal.at.returns-then-y-to-clause-right c).After-put_band in
    let is : here.put_band.result ≡ Ok c.in_ok-at.at = grind arith in
    λ j h s there le tall w room.
    let after = serves here j h s in (
      refl,
      (more here _ is j h s w).1
          ∙ ap (λ z. rows (get_or (shown j) c.args.rows.page []) j.wide c.args.rows.from (z - c.args.rows.from) ++ drop ((z - c.args.rows.from) * j.wide) c.args.out.now) c.if-y-to.true,
      after.0,
      after.1,
    )

pub returns-then-y-to-clause-answer : goal.returns-then-y-to-clause-answer
returns-then-y-to-clause-answer c =
    let here = (goal.at.returns-then-y-to-clause-answer c).After-put_band in
    let is : here.put_band.result ≡ Ok c.in_ok-at.at = grind arith in
    λ j h s le w room. let p = placed_here here _ is j h s w in sym (outcome_whole j c.args.rows.page c.args.rows.to p.0 (omega (arith, p.1)))

pub returns-then-y-to-clause-serves : goal.returns-then-y-to-clause-serves
returns-then-y-to-clause-serves c = serves (goal.at.returns-then-y-to-clause-serves c).After-put_band

-- a band that is missing ends all
failed : (c : After-put_band) (m : Missing) → c.put_band.result ≡ Err m → (j : Job) → Shaped (regions_of c.args.s.now) → Serves the_printer j (memory_of c.args.s.now) → c.args.width ≡ j.wide →
    Placed (Err m) j c.args.rows.page c.loop-at.y c.min-n.result c.loop-at.at c.loop-at.out c.put_band.new.out
failed c m is j h s w = subst (λ z. Placed z j c.args.rows.page c.loop-at.y c.min-n.result c.loop-at.at c.loop-at.out c.put_band.new.out) is (placed c j h s w)

missed : (r : Result ℕ Missing) → is_ok r ≡ false → (m : Missing) × (r ≡ Err m)
missed (Ok end) e = cc
missed (Err m) e = (m, refl)

pub returns-in_err-at-clause-right : goal.returns-in_err-at-clause-right
returns-in_err-at-clause-right c =
    let here = (goal.at.returns-in_err-at-clause-right c).After-put_band in
    let m = missed here.put_band.result (grind arith) in
    λ j h s there le tall w room. absurd (none_missing _ j _ _ _ _ c.args.rows.to _ _ (ends here) there tall (failed here _ m.1 j h s w))

pub returns-in_err-at-clause-answer : goal.returns-in_err-at-clause-answer
returns-in_err-at-clause-answer c =
    let here = (goal.at.returns-in_err-at-clause-answer c).After-put_band in
    let is : here.put_band.result ≡ Err c.in_err-at.field-0.0 = grind arith in
    let q = err_from_is_err_and c.from_residual.result c.from_residual.ensures.1 in
    λ j h s le w room. q.1 ∙ ap Err q.2 ∙ outcome_missing _ j _ _ _ _ c.args.rows.to _ _ (ends here) (failed here _ is j h s w)

pub returns-in_err-at-clause-serves : goal.returns-in_err-at-clause-serves
returns-in_err-at-clause-serves c = serves (goal.at.returns-in_err-at-clause-serves c).After-put_band
