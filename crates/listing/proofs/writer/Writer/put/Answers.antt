use Rattle.std.proofs.Common.{◌+◌, min, sym, ap, ◌∙◌}
use Rattle.std.proofs.lemmas.List.{set_past}
use Rattle.listing.specs.Output.{output}
use Rattle.listing.specs.declared.writer.Writer.{Writer}
use Rattle.listing.proofs.Writing.{wrote_one}
use Rattle.listing.proofs.writer.Writer.put.Goals as goal
use Rattle.listing.proofs.writer.Writer.put.Goals.{then-self, else-self}

pub returns : goal.returns
returns c =
    let counted = ap (λ n. output n c.if-self.self.bytes.now) c.saturating_add-self.ensures in
    let one = λ (z : Writer). output (min (z.at + 1) 18446744073709551615) z.bytes.now in
    let held = λ (z : Writer). z.bytes.ghost_name in
    let was = c.args.self.now in
    let b = c.args.byte in
    elim c.if-self.branch [
      | then-self w ↦ record { wrote = wrote_one b _ _ (counted ∙ ap one w.self-is); lent = ap held w.self-is }
      | else-self w ↦
          record {
            wrote = wrote_one b _ _ (counted ∙ ap one w.self-is ∙ ap (output (min (was.at + 1) 18446744073709551615)) (sym (set_past was.bytes.now was.at b w.if-self.false)));
            lent = ap held w.self-is;
          }
    ]
