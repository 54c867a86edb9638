-- Where an edge crosses a level: which of its two directions counts, and the first dot past the crossing by one division.
use Rattle.std.proofs.Common.{◌≡◌, ℕ, suc, ◌+◌, ◌-◌, ◌*◌, ◌/◌, ◌<◌, ◌≤◌, Bool, true, false, ◌&&◌, ◌||◌, ltb, leb, sym, refl, ap, ◌∙◌, inl, inr, mul_assoc, mul_comm, add-mul, arith}
use Rattle.std.proofs.lemmas.Bool.{cases_lt, le-leb, lt-leb, le-ltb}
use Rattle.std.proofs.lemmas.Nat.{div_below, le-div}
use Rattle.path.specs.Path.{Point}
use Rattle.raster.specs.Coverage.{rises, crosses}

-- the sum n is reached by middle x of height d where the quotient is
pub dot_reached : (n d x : ℕ) → 0 < d → leb n ((16 * x + 8) * d) ≡ leb ((n + 8 * d - 1) / (16 * d)) x
dot_reached n d x some =
    let a : (16 * x + 8) * d ≡ 16 * (x * d) + 8 * d = add-mul (16 * x) 8 d ∙ ap (λ m. m + 8 * d) (mul_assoc 16 x d) in
    let b : suc x * (16 * d) ≡ 16 * (x * d) + 16 * d = ap (λ m. m * (16 * d)) (one_more x) ∙ add-mul x 1 (16 * d) ∙ ap (λ m. m + 1 * (16 * d)) (sym (mul_assoc x 16 d) ∙ ap (λ m. m * d) (mul_comm x 16) ∙ mul_assoc 16 x d) ∙ last (x * d) d in
    elim (cases_lt ((16 * x + 8) * d) n) [
      | inl past ↦
          let h = le-div (suc x) (n + 8 * d - 1) (16 * d) (omega arith) (omega arith) in
          lt-leb n ((16 * x + 8) * d) past ∙ sym (lt-leb ((n + 8 * d - 1) / (16 * d)) x (omega arith))
      | inr reached ↦
          let h = div_below (n + 8 * d - 1) (16 * d) (suc x) (omega arith) (omega arith) in
          le-leb n ((16 * x + 8) * d) reached ∙ sym (le-leb ((n + 8 * d - 1) / (16 * d)) x (omega arith))
    ]
  where
    one_more : (x : ℕ) → suc x ≡ x + 1
    one_more x = omega arith

    last : (m d : ℕ) → 16 * m + 1 * (16 * d) ≡ 16 * m + 16 * d
    last m d = omega arith

-- an edge that begins below the level, and one that ends above it
rises_below : (p q : Point) (a b : ℕ) → b < p.y → rises p q a b ≡ false
rises_below p q a b h = ap (λ t. (t && ltb b q.y) && leb (p.x * (q.y - b) + q.x * (b - p.y)) (a * (q.y - p.y))) (lt-leb p.y b h)

rises_above : (p q : Point) (a b : ℕ) → q.y ≤ b → rises p q a b ≡ false
rises_above p q a b h =
    ap (λ t. (leb p.y b && t) && leb (p.x * (q.y - b) + q.x * (b - p.y)) (a * (q.y - p.y))) (le-ltb b q.y h)
    ∙ nothing (leb p.y b) (leb (p.x * (q.y - b) + q.x * (b - p.y)) (a * (q.y - p.y)))
  where
    nothing : (s t : Bool) → ((s && false) && t) ≡ false
    nothing true t = refl
    nothing false t = refl

-- an edge that lies all above or all below the level
pub crosses_not_below : (p q : Point) (a b : ℕ) → b < p.y → b < q.y → crosses p q a b ≡ false
crosses_not_below p q a b hp hq = ap (λ t. t || rises q p a b) (rises_below p q a b hp) ∙ rises_below q p a b hq

pub crosses_not_above : (p q : Point) (a b : ℕ) → p.y ≤ b → q.y ≤ b → crosses p q a b ≡ false
crosses_not_above p q a b hp hq = ap (λ t. t || rises q p a b) (rises_above p q a b hq) ∙ rises_above q p a b hp
