use Rattle.std.proofs.Common.{◌≡◌, ◌*◌, ◌/◌, ◌%◌, ◌^◌, get_or, set, ap, ◌∙◌, arith}
use lib.Bits.{bit_xor}
use Rattle.std.proofs.lemmas.Nat.{one_shl, mod_below}
use Rattle.bits.specs.Row.{bit_at}
use Rattle.bits.proofs.RowLaws.{bit_toggled}
use Rattle.bits.proofs.row.Row.toggle.Goals as goal

pub returns-clause-value : goal.returns-clause-value
returns-clause-value g c k =
    let ws = c.args.self.now.words in
    let x = c.args.x in
    let at = x / 64 in
    let fits = c.args.self.now.fits in
    let one : (1 * 2 ^ (x % 64)) % 2 ^ 64 ≡ 2 ^ (x % 64) = one_shl (x % 64) 64 (mod_below x 64 (omega arith)) in
    ap (λ v. bit_at (set ws at (bit_xor (get_or ws at 0) v)) k) one ∙ bit_toggled ws x k (omega arith)
