use Rattle.std.proofs.Common.{◌≡◌, ℕ, ◌+◌, ◌-◌, ◌/◌, ◌^◌, ◌<◌, min, true, false, cond, List, length, get_or, take, drop, sym, refl, ap, ◌∙◌, arith, length-drop, length-take, shr-shr}
use borrow.Rule.Slice.PartMut.{put_mid}
use Rattle.bits.specs.Row.{bit}
use Rattle.bits.proofs.BitLaws.{shr_less, bit_zero}
use Rattle.bits.proofs.PartLaws.{put_length, filled}
use Rattle.bits.proofs.PaintLaws.{Painted, painted_more, painted_all, rest_few, rest_bit, rest_more, run_bit, run_some}
use Rattle.bits.proofs.painting.paint_word.Goals as goal

pub overflow_add-start : goal.overflow_add-start
overflow_add-start c = let f = rest_few c.args.word c.loop-rest.from c.loop-rest.rest c.loop-rest.invariant.0 (omega arith) (omega arith) in omega arith

pub overflow_add-end : goal.overflow_add-end
overflow_add-end c = let f = rest_few c.args.word c.loop-rest.from c.loop-rest.rest c.loop-rest.invariant.0 (omega arith) (omega arith) in omega arith

pub loop-rest-smaller : goal.loop-rest-smaller
loop-rest-smaller c =
    let rest = c.loop-rest.rest in
    let skip = c.clear_bits-skip.result in
    let run = c.set_bits-run.result in
    let some : 0 < run = run_some (rest / 2 ^ skip) rest skip run refl c.clear_bits-skip.ensures.at c.set_bits-run.ensures.at in
    let more : 0 < skip + run = omega arith in
    let whole : rest / 2 ^ skip / 2 ^ run ≡ rest / 2 ^ (skip + run) = shr-shr rest skip run in
    let less : rest / 2 ^ (skip + run) < rest = shr_less rest (skip + run) (omega arith) more in
    omega arith

-- a run more of the word: the dots before it are not set, and it has grey in all of its dots
run_painted : (word grey from rest skip run s e : ℕ) (was dots part : List ℕ) → rest ≡ word / 2 ^ from → Painted (bit word) grey was dots from →
    ((k : ℕ) → k < skip → bit rest k ≡ false) → ((k : ℕ) → k < run → bit (rest / 2 ^ skip) k ≡ true) →
    s ≡ min (from + skip) (length dots) → e ≡ min (from + skip + run) (length dots) → length part ≡ length (take (e - s) (drop s dots)) →
    ((i : ℕ) → i < length (take (e - s) (drop s dots)) → get_or part i 0 ≡ grey) → Painted (bit word) grey was (put_mid s (e - s) dots part) (from + skip + run)
run_painted word grey from rest skip run s e was dots part is p clear set se ee len filled =
    let mid : length (take (e - s) (drop s dots)) ≡ e - s = simp (length-take, length-drop) (omega arith) in
    painted_more (bit word) grey was dots part from (from + skip) (from + skip + run) s e p (omega arith) (omega arith)
    (λ x le lt. let k : from + (x - from) ≡ x = omega arith in sym (ap (bit word) k) ∙ sym (rest_bit word from rest (x - from) is) ∙ clear (x - from) (omega arith))
    se ee (len ∙ mid)
    (λ i lt at. filled i (omega arith) ∙ sym (ap (λ b. cond b grey (get_or was (from + skip + i) 0)) (sym (run_bit word from rest skip i is) ∙ set i (omega arith))))

pub loop-rest-preserved : goal.loop-rest-preserved
loop-rest-preserved c =
    let inv = c.loop-rest.invariant in
    let p =
    run_painted c.args.word c.args.grey c.loop-rest.from c.loop-rest.rest c.clear_bits-skip.result c.set_bits-run.result c.min.result c.min-in-loop-rest.result c.args.dots.now c.loop-rest.dots c.fill.new.self
    inv.0 (inv.1, inv.2) c.clear_bits-skip.ensures.below c.set_bits-run.ensures.below (omega arith) (omega arith) c.fill.auto.self (filled _ c.args.grey c.fill.new.self (c.fill.ensures.after (λ y e. e))) in
    (rest_more c.args.word c.loop-rest.from c.loop-rest.rest c.clear_bits-skip.result c.set_bits-run.result inv.0, p.0, p.1)

pub returns-after-loop-rest : goal.returns-after-loop-rest
returns-after-loop-rest c x lt =
    let inv = c.loop-rest.invariant in
    let from = c.loop-rest.from in
    painted_all (bit c.args.word) c.args.grey c.args.dots.now c.loop-rest.dots from (inv.1, inv.2)
    (λ k le less. let e : from + (k - from) ≡ k = omega arith in sym (ap (bit c.args.word) e) ∙ sym (rest_bit c.args.word from c.loop-rest.rest (k - from) inv.0) ∙ ap (λ w. bit w (k - from)) c.loop-rest-test.false ∙ bit_zero (k - from))
    x (omega arith)

pub returns-then-run-ge64 : goal.returns-then-run-ge64
returns-then-run-ge64 c x lt =
    let inv = c.loop-rest.invariant in
    let all = put_length c.min.result (c.min-in-loop-rest.result - c.min.result) c.loop-rest.dots c.fill.new.self (omega arith) (c.fill.auto.self ∙ simp (length-take, length-drop) (omega arith)) in
    let p =
    run_painted c.args.word c.args.grey c.loop-rest.from c.loop-rest.rest c.clear_bits-skip.result c.set_bits-run.result c.min.result c.min-in-loop-rest.result c.args.dots.now c.loop-rest.dots c.fill.new.self
    inv.0 (inv.1, inv.2) c.clear_bits-skip.ensures.below c.set_bits-run.ensures.below (omega arith) (omega arith) c.fill.auto.self (filled _ c.args.grey c.fill.new.self (c.fill.ensures.after (λ y e. e))) in
    p.0 x (omega arith) (omega arith)
