use Rattle.std.proofs.Common.{sym, ap, subst, arith}
use Rattle.machine.specs.Machine.{Manner}
use Rattle.machine.specs.Clips.{Kept}
use Rattle.machine.proofs.ClipLaws.{whole_none, weight_none, no_clips}
use Rattle.machine.proofs.drawing.Drawing.new.Goals as goal

pub invariant_of-result : goal.invariant_of-result
invariant_of-result g c =
    let ws = c.args.clips.now in
    record {
      space = c.requires;
      well = record { fits = omega arith; front = whole_none; weighs = weight_none; light = (omega arith, omega arith) };
      nested = subst (Kept ws 0) (sym c.new.ensures) tt;
    }

pub returns-clause-manner : goal.returns-clause-manner
returns-clause-manner g c = ap {B = Manner} (λ cs. record { grey = 0; scale = 16; left = 0; top = 0; clips = cs }) no_clips
