use Rattle.std.proofs.Common.{◌≡◌, ◌+◌, ◌-◌, ◌*◌, ◌/◌, cond, length, get_or, take, drop, sym, ap, ◌∙◌, arith, length-drop, length-take}
use Rattle.std.proofs.lemmas.List.{get_or-take, get_or-drop}
use Rattle.bits.specs.Row.{bit, bit_at}
use Rattle.bits.proofs.PartLaws.{filled}
use Rattle.bits.proofs.RowLaws.{bit_unset, bit_in_word, length-middle}
use Rattle.bits.proofs.PaintLaws.{full_bit, painted_none, painted_more, painted_all}
use Rattle.bits.proofs.row.Row.paint.Goals as goal

pub loop-i-init : goal.loop-i-init
loop-i-init g c =
    let ws = c.args.self.now.words in
    painted_none (bit_at ws) c.args.grey c.args.dots.now (64 * c.args.self.now.low) (λ x lt. bit_unset ws x (c.args.self.now.within.1 (x / 64) (omega arith)))

pub overflow_mul-i : goal.overflow_mul-i
overflow_mul-i g c = let few = c.requires in let top = c.args.self.now.within.0 in omega arith

pub loop-i-preserved : goal.loop-i-preserved
loop-i-preserved g c =
    let ws = c.args.self.now.words in
    let i = c.loop-i.i in
    let row = c.loop-i.dots in
    let s = c.min-start.result in
    let e = c.min-end-else-run-gt0.result in
    let part = c.paint_word.new.dots in
    let se = c.min-start.ensures in
    let ee = c.min-end-else-run-gt0.ensures in
    let next : 64 * (i + 1) ≡ 64 * i + 64 = omega arith in
    let mid : length (take (e - s) (drop s row)) ≡ e - s = simp (length-take, length-drop) (omega arith) in
    painted_more (bit_at ws) c.args.grey c.args.dots.now row part (64 * i) (64 * i) (64 * (i + 1)) s e c.loop-i.invariant (omega arith) (omega arith) (λ x a b. let no : ⊥ = omega arith in absurd no) (omega arith) (omega arith)
    (c.paint_word.auto.dots ∙ mid)
    (λ k lt at.
    c.paint_word.ensures k (omega arith)
    ∙ ap (λ v. cond (bit (get_or ws i 0) k) c.args.grey v) (get_or-take (e - s) (drop s row) k 0 lt ∙ get_or-drop s row k 0 ∙ ap (λ n. get_or row (n + k) 0) at ∙ c.loop-i.invariant.1 (64 * i + k) (omega arith))
    ∙ ap (λ b. cond b c.args.grey (get_or c.args.dots.now (64 * i + k) 0)) (sym (bit_in_word ws i k (omega arith))))

-- a run of full words: all of its dots are set
pub loop-i-preserved-then-run-gt0 : goal.loop-i-preserved-then-run-gt0
loop-i-preserved-then-run-gt0 g c =
    let ws = c.args.self.now.words in
    let i = c.loop-i.i in
    let row = c.loop-i.dots in
    let run = c.full_words-run.result in
    let s = c.min-start.result in
    let e = c.min-end.result in
    let part = c.fill.new.self in
    let se = c.min-start.ensures in
    let ee = c.min-end.ensures in
    let top = c.args.self.now.within.0 in
    let few = c.full_words-run.ensures.within in
    let words = length-middle ws i c.args.self.now.high top in
    let mid : length (take (e - s) (drop s row)) ≡ e - s = simp (length-take, length-drop) (omega arith) in
    painted_more (bit_at ws) c.args.grey c.args.dots.now row part (64 * i) (64 * i) (64 * (i + run)) s e c.loop-i.invariant (omega arith) (omega arith) (λ x a b. let no : ⊥ = omega arith in absurd no) (omega arith) (omega arith)
    (c.fill.auto.self ∙ mid)
    (λ k lt at.
    filled _ c.args.grey part (c.fill.ensures.after (λ y e. e)) k (omega arith)
    ∙ sym (ap (λ b. cond b c.args.grey (get_or c.args.dots.now (64 * i + k) 0)) (full_bit ws i c.args.self.now.high run (64 * i + k) (omega arith) (omega arith) (omega arith) c.full_words-run.ensures.full)))

pub returns : goal.returns
returns g c =
    let ws = c.args.self.now.words in
    λ x lt. painted_all (bit_at ws) c.args.grey c.args.dots.now c.loop-i.dots (64 * c.loop-i.i) c.loop-i.invariant (λ k le less. bit_unset ws k (c.args.self.now.within.2 (k / 64) (omega arith))) x (omega arith)
