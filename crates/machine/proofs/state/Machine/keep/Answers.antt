use Rattle.std.proofs.Common.{◌≡◌, ℕ, ◌≤◌, true, false, length, Err, sym, refl, ap, ◌∙◌, inl, inr, arith}
use Rattle.std.proofs.lemmas.Result.{err_from_is_err_and}
use Rattle.std.proofs.lemmas.Bool.{cond-true, cond-false, lt-ltb, le-ltb, cases_lt}
use Rattle.machine.specs.Machine.{on, ends, operate}
use Rattle.machine.specs.Abstraction.{state, saved_of, after}
use Rattle.machine.proofs.KeepLaws.{same_manner}
use Rattle.machine.proofs.state.Machine.keep.Goals as goal

never : {A : Type 0} → false ≡ true → A
never e = let z : ◌≡◌ {A = ℕ} 0 1 = cc in absurd (omega arith)

pub returns : goal.returns
unfolding operate
returns g c =
    let m = c.args.self.now in
    let kept = c.in_ok-keep.ensures in
    λ p t. ap on (same_manner (state m p t) kept.manner kept.ok) ∙ sym (cond-true _ _ _ (lt-ltb (length (saved_of m.drawing)) 16 (kept.variant.0 refl)))

pub returns-in_err-keep : goal.returns-in_err-keep
unfolding operate
returns-in_err-keep g c =
    let m = c.args.self.now in
    let kept = c.in_err-keep.ensures in
    let many = length (saved_of m.drawing) in
    let q = err_from_is_err_and c.from_residual.result c.from_residual.ensures.1 in
    let full : 16 ≤ many = elim (cases_lt many 16) [ inl lt ↦ never (kept.variant.1 lt) | inr ge ↦ ge ] in
    λ p t.
    ap (λ r. after r (record { values = m.values; frames = m.frames; names = m.names; drawing = c.keep.new.self }) p t) (q.1 ∙ ap Err q.2)
    ∙ ap (ends 7) (same_manner (state m p t) kept.manner kept.err) ∙ sym (cond-false _ _ _ (le-ltb many 16 full))
