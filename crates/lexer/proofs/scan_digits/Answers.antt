use Rattle.std.proofs.Common.{ℕ, ◌+◌, ◌-◌, ◌*◌, get_or, sym, ◌∙◌, arith}
use Rattle.lexer.proofs.Scanning.{number_goes, capped_more}
use Rattle.lexer.proofs.scan_digits.Goals as goal

pub loop-i-preserved : goal.loop-i-preserved
loop-i-preserved c =
    let s = c.args.source.now in
    let i = c.loop-i.i in (
      omega arith,
      omega arith,
      (λ h. omega arith),
      λ p.
          let n : ℕ = (c.loop-i.invariant.3 p).0 in
          let d : ℕ = get_or s i 0 - 48 in
          (10 * n + d, c.with_digit-value.ensures ∙ capped_more c.loop-i.value n d (c.loop-i.invariant.3 p).1, (c.loop-i.invariant.3 p).2 ∙ number_goes s i p n (omega arith) (sym c.if-digit.ensures)),
    )
