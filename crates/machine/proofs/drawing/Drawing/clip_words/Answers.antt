use Rattle.std.proofs.Common.{arith}
use Rattle.machine.proofs.drawing.Drawing.clip_words.Goals as goal

pub slice_bounds-result-end : goal.slice_bounds-result-end
slice_bounds-result-end g c = let d = c.args.self.now in omega (arith, d.well.fits)
