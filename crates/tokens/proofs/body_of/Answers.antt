use Rattle.std.proofs.Common.{◌≡◌, ℕ, ◌-◌, ◌≤◌, List, length, take, drop, sym, ap, ◌∙◌, arith}
use Rattle.std.proofs.lemmas.List.{take_all, drop_all}
use Rattle.std.proofs.lemmas.Slice.{between_to_end}
use Rattle.tokens.proofs.body_of.Goals.{then-n-len, else-n-len}
use Rattle.tokens.proofs.body_of.Goals as goal

-- the words are cut where they end
taken : (xs : List ℕ) (n : ℕ) → length xs ≤ n → take (length xs) xs ≡ take n xs
taken xs n h = take_all (length xs) xs (omega arith) ∙ sym (take_all n xs h)

dropped : (xs : List ℕ) (n : ℕ) → length xs ≤ n → drop (length xs) xs ≡ drop n xs
dropped xs n h = drop_all (length xs) xs (omega arith) ∙ sym (drop_all n xs h)

pub returns : goal.returns
returns c =
    let xs = c.args.words.now in
    let end = c.if-n-len.end in
    let z : end - 0 ≡ end = omega arith in
    let rest = between_to_end xs end (length xs) (omega arith) in
    elim c.if-n-len.branch [
      | then-n-len w ↦ record { body = ap (λ k. take k xs) (z ∙ w.end-is); rest = rest ∙ ap (λ k. drop k xs) w.end-is }
      | else-n-len w ↦
          record {
            body = ap (λ k. take k xs) (z ∙ w.end-is) ∙ taken xs c.args.n (omega arith);
            rest = rest ∙ ap (λ k. drop k xs) w.end-is ∙ dropped xs c.args.n (omega arith);
          }
    ]
