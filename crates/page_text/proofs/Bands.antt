-- Bands one after another are the page.
use Rattle.std.proofs.Common.{◌≡◌, ℕ, zero, suc, ◌+◌, ◌-◌, ◌*◌, ◌≤◌, List, [], ◌∷◌, ◌++◌, length, take, drop, sum, sym, refl, ap, ◌∙◌, add-zero, add-suc, mul-le-mul_right, add-mul, suc-add, zero-add, arith}
use Rattle.std.proofs.lemmas.List.{append_assoc, take_at, drop_at, drop-drop}
use Rattle.std.proofs.lemmas.List.Sums.{sum_by-cons}
use Rattle.path.specs.Path.{Paint}
use Rattle.raster.specs.Coverage.{row, rows}
use Rattle.raster.proofs.BandLaws.{length-rows}
use Rattle.page_text.specs.Laws.{banded}

-- rows join
pub rows_join : (ps : List Paint) (w y a b : ℕ) → rows ps w y a ++ rows ps w (y + a) b ≡ rows ps w y (a + b)
unfolding rows
rows_join ps w y zero b = ap (λ z. rows ps w z b) (add-zero y) ∙ ap (rows ps w y) (sym (zero-add b))
rows_join ps w y (suc a) b =
    append_assoc (row ps w y) (rows ps w (suc y) a) (rows ps w (y + suc a) b)
    ∙ ap (λ z. row ps w y ++ (rows ps w (suc y) a ++ rows ps w z b)) (add-suc y a ∙ sym (suc-add y a))
    ∙ ap (λ z. row ps w y ++ z) (rows_join ps w (suc y) a b)
    ∙ ap (rows ps w y) (sym (suc-add a b))

-- so any bands make the page
pub bands_join : (ps : List Paint) (w y : ℕ) (ns : List ℕ) → banded ps w y ns ≡ rows ps w y (sum ns)
unfolding banded rows
bands_join ps w y [] = refl
bands_join ps w y (n ∷ ns) = ap (λ z. rows ps w y n ++ z) (bands_join ps w (y + n) ns) ∙ rows_join ps w y n (sum ns) ∙ ap (rows ps w y) (sym (sum_by-cons (λ x. x) n ns))

-- a part put behind what stands there already
put_more : (base r b out : List ℕ) (m k at : ℕ) → out ≡ r ++ drop m base → length r ≡ m → at ≡ m → take at out ++ (b ++ drop (at + k) out) ≡ (r ++ b) ++ drop (m + k) base
put_more base r b out m k at e l i =
    let t : take m (r ++ drop m base) ≡ r = take_at r (drop m base) m l in
    let d : drop m (r ++ drop m base) ≡ drop m base = drop_at r (drop m base) m l in
    ap (λ z. take z out ++ (b ++ drop (z + k) out)) i
    ∙ ap (λ z. take m z ++ (b ++ drop (m + k) z)) e
    ∙ ap (λ z. z ++ (b ++ drop (m + k) (r ++ drop m base))) t
    ∙ ap (λ z. r ++ (b ++ z)) (sym (drop-drop k m (r ++ drop m base)) ∙ ap (drop k) d ∙ drop-drop k m base)
    ∙ sym (append_assoc r b (drop (m + k) base))

-- k rows from row f on stand there, and the n rows behind them are put
rows_more : (base out out2 : List ℕ) (ps : List Paint) (w f k n at : ℕ) → out ≡ rows ps w f k ++ drop (k * w) base → at ≡ k * w →
    out2 ≡ take at out ++ (rows ps w (f + k) n ++ drop (at + n * w) out) → out2 ≡ rows ps w f (k + n) ++ drop ((k + n) * w) base
rows_more base out out2 ps w f k n at e i p =
    p ∙ put_more base (rows ps w f k) (rows ps w (f + k) n) out (k * w) (n * w) at e (length-rows ps w f k) i
    ∙ ap (λ z. z ++ drop (k * w + n * w) base) (rows_join ps w f k n)
    ∙ ap (λ z. rows ps w f (k + n) ++ drop z base) (sym (add-mul k n w))

-- the same from row f up to before row y
pub band_more : (base out out2 : List ℕ) (ps : List Paint) (w f y n at end : ℕ) → f ≤ y → (at ≡ (y - f) * w) × (out ≡ rows ps w f (y - f) ++ drop ((y - f) * w) base) → end ≡ at + n * w →
    out2 ≡ take at out ++ (rows ps w y n ++ drop (at + n * w) out) → (end ≡ (y + n - f) * w) × (out2 ≡ rows ps w f (y + n - f) ++ drop ((y + n - f) * w) base)
band_more base out out2 ps w f y n at end le h e p =
    let k : y + n - f ≡ y - f + n = omega arith in
    let i : f + (y - f) ≡ y = omega arith in
    let m = add-mul (y - f) n w in (
      e ∙ ap (λ z. z + n * w) h.0 ∙ sym m ∙ ap (λ z. z * w) (sym k),
      rows_more base out out2 ps w f (y - f) n at h.1 h.0 (p ∙ ap (λ z. take at out ++ (rows ps w z n ++ drop (at + n * w) out)) (sym i)) ∙ ap (λ z. rows ps w f z ++ drop (z * w) base) (sym k),
    )

-- where there is room for all rows, there is for each band
pub band_fits : (f y n to w width at len : ℕ) → f ≤ y → y + n ≤ to → at ≡ (y - f) * w → width ≡ w → (to - f) * width ≤ len → at + n * w ≤ len
band_fits f y n to w width at len le h e same room =
    omega (arith, add-mul (y - f) n w, mul-le-mul_right {m = y - f + n} {n = to - f} w (omega arith), ap (λ z. (to - f) * z) same)
