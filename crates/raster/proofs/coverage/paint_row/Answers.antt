use Rattle.std.proofs.Common.{◌≡◌, ℕ, ◌+◌, ◌*◌, ◌/◌, false, cond, ◌&&◌, get_or, sym, ap, ◌∙◌, arith}
use Rattle.bits.proofs.RowLaws.{empty_within, bit_unset}
use Rattle.path.specs.Stored.{rings_in, paths_in}
use Rattle.raster.specs.Coverage.{in_path, in_all}
use Rattle.raster.proofs.coverage.paint_row.Goals as goal

-- a row with no word set has no dot to paint
pub returns-else-span : goal.returns-else-span
returns-else-span c =
    let row = c.cover.new.row in
    let none : (i : ℕ) → get_or row.words i 0 ≡ 0 = empty_within row.words row.low row.high (omega arith) row.within in
    λ x lt.
    let out : in_path (rings_in c.args.thing.path.now) (16 * x + 8) c.args.level ≡ false = sym (ap (λ r. in_path r (16 * x + 8) c.args.level) c.new.ensures.rings) ∙ sym (c.cover.ensures.value x (omega arith) (omega arith)) ∙ bit_unset row.words x (none (x / 64)) in
    sym (ap (λ b. cond (b && in_all (paths_in c.args.thing.clips.now) (16 * x + 8) c.args.level) c.args.thing.grey (get_or c.args.dots.now x 0)) out)
