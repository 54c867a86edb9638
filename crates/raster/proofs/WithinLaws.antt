-- A band of which only the rows within an extent are painted: what is left alone has nothing to paint, if the extent is the path's.
use Rattle.std.proofs.Common.{◌≡◌, ℕ, ◌+◌, ◌*◌, ◌<◌, ◌≤◌, min, max, false, cond, ◌&&◌, ltb, leb, List, [], ◌∷◌, length, get_or, sym, ap, ◌∙◌, inl, inr, mul-le-mul_right, arith}
use mathlib.Core.Bool.{and-false}
use Rattle.std.proofs.lemmas.Bool.{cases_lt, lt-leb, le-leb, lt-ltb, le-ltb, and_from}
use Rattle.path.specs.Path.{Ring, Paint}
use Rattle.path.specs.Extent.{ExtentOf, path_top, path_bottom}
use Rattle.path.specs.declared.extent.Extent.{Extent}
use Rattle.raster.specs.Band.{reaches, PaintedWithin, PaintedBand}
use Rattle.raster.specs.Coverage.{in_path, in_all, covers}
use Rattle.raster.specs.Levels.{clips_top, clips_bottom}
use Rattle.raster.proofs.LevelLaws.{path_over, path_under, clips_over, clips_under}
use Rattle.raster.proofs.BandLaws.{row_ends, painted_more}

-- clips only narrow
pub le_clips_top : (clips : List (List Ring)) (t : ℕ) → t ≤ clips_top t clips
le_clips_top [] t = omega arith
le_clips_top (c ∷ cs) t = let h = le_clips_top cs (max t (path_top 16777216 c)) in omega arith

pub clips_bottom_le : (clips : List (List Ring)) (t : ℕ) → clips_bottom t clips ≤ t
clips_bottom_le [] t = omega arith
clips_bottom_le (c ∷ cs) t = let h = clips_bottom_le cs (min t (path_bottom 0 c)) in omega arith

-- a thing has no dot of row y at x within the extent
abbrev Misses : Extent → Paint → ℕ → ℕ → Type 0
Misses e t x y = (reaches e (16 * y + 8) && covers t x y) ≡ false

pub misses_above : (e : Extent) (t : Paint) (x y : ℕ) → 16 * y + 8 < e.top → Misses e t x y
misses_above e t x y lt = ap (λ v. (v && ltb (16 * y + 8) e.bottom) && covers t x y) (lt-leb e.top (16 * y + 8) lt)

pub misses_below : (e : Extent) (t : Paint) (x y : ℕ) → e.bottom ≤ 16 * y + 8 → Misses e t x y
misses_below e t x y le =
    ap (λ v. (leb e.top (16 * y + 8) && v) && covers t x y) (le-ltb (16 * y + 8) e.bottom le) ∙ ap (λ v. v && covers t x y) (and-false (leb e.top (16 * y + 8)))

misses_clipped : (e : Extent) (t : Paint) (x y : ℕ) → in_all t.clips (16 * x + 8) (16 * y + 8) ≡ false → Misses e t x y
misses_clipped e t x y none =
    ap (λ v. reaches e (16 * y + 8) && (in_path t.path (16 * x + 8) (16 * y + 8) && v)) none
    ∙ ap (λ v. reaches e (16 * y + 8) && v) (and-false (in_path t.path (16 * x + 8) (16 * y + 8)))
    ∙ and-false (reaches e (16 * y + 8))

-- above or below what the clips leave of the extent
pub misses_over : (e : Extent) (t : Paint) (x y : ℕ) → 16 * y + 8 < clips_top e.top t.clips → Misses e t x y
misses_over e t x y lt = elim (clips_over t.clips e.top (16 * x + 8) (16 * y + 8) lt) [ inl above ↦ misses_above e t x y above | inr none ↦ misses_clipped e t x y none ]

pub misses_under : (e : Extent) (t : Paint) (x y : ℕ) → clips_bottom e.bottom t.clips ≤ 16 * y + 8 → Misses e t x y
misses_under e t x y le = elim (clips_under t.clips e.bottom (16 * x + 8) (16 * y + 8) le) [ inl below ↦ misses_below e t x y below | inr none ↦ misses_clipped e t x y none ]

-- a band of n rows of which those from start up to before end are painted and lie within the extent, and the others have nothing to paint
pub band_within : (was bytes : List ℕ) (w y n start end : ℕ) (t : Paint) (e : Extent) →
    ((r x : ℕ) → start ≤ r → r < end → x < w → get_or bytes (r * w + x) 0 ≡ cond (covers t x (y + r)) t.grey (get_or was (r * w + x) 0)) →
    ((i : ℕ) → i < start * w → get_or bytes i 0 ≡ get_or was i 0) → ((i : ℕ) → end * w ≤ i → get_or bytes i 0 ≡ get_or was i 0) → end ≤ n →
    ((r x : ℕ) → r < start → Misses e t x (y + r)) → ((r x : ℕ) → end ≤ r → r < n → Misses e t x (y + r)) →
    ((r : ℕ) → start ≤ r → r < end → (e.top ≤ 16 * (y + r) + 8) × (16 * (y + r) + 8 < e.bottom)) →
    PaintedWithin was bytes w y n t e
band_within was bytes w y n start end t e value before rest order over under inside = record { dots = one; rest = λ i le. let o = mul-le-mul_right {m = end} {n = n} w order in rest i (omega arith) }
  where
    one : (r x : ℕ) → r < n → x < w → get_or bytes (r * w + x) 0 ≡ cond (reaches e (16 * (y + r) + 8) && covers t x (y + r)) t.grey (get_or was (r * w + x) 0)
    one r x lr lx =
        elim (cases_lt r start) [
          | inl early ↦ let b = row_ends r start w early in before (r * w + x) (omega arith) ∙ sym (ap (λ c. cond c t.grey (get_or was (r * w + x) 0)) (over r x early))
          | inr from ↦
              elim (cases_lt r end) [
                | inl less ↦
                    let h = inside r from less in
                    value r x from less lx ∙ sym (ap (λ c. cond (c && covers t x (y + r)) t.grey (get_or was (r * w + x) 0)) (and_from (leb e.top (16 * (y + r) + 8)) (ltb (16 * (y + r) + 8) e.bottom) (le-leb e.top (16 * (y + r) + 8) h.0) (lt-ltb (16 * (y + r) + 8) e.bottom h.1)))
                | inr late ↦ let b = mul-le-mul_right {m = end} {n = r} w late in rest (r * w + x) (omega arith) ∙ sym (ap (λ c. cond c t.grey (get_or was (r * w + x) 0)) (under r x late lr))
              ]
        ]

-- within the path's own extent all of the thing is painted
pub own_painted : (was bytes : List ℕ) (w y n : ℕ) (t : Paint) (e : Extent) → length bytes ≡ length was → n * w ≤ length was → PaintedWithin was bytes w y n t e → ExtentOf e t.path → PaintedBand was bytes w y n t
own_painted was bytes w y n t e same fits p own = record { dots = one; rest = p.rest; more = λ ps h. painted_more was bytes w y n t same fits one p.rest ps h }
  where
    gone : (x r : ℕ) → in_path t.path (16 * x + 8) (16 * (y + r) + 8) ≡ false → (reaches e (16 * (y + r) + 8) && covers t x (y + r)) ≡ covers t x (y + r)
    gone x r out =
        let none : covers t x (y + r) ≡ false = ap (λ v. v && in_all t.clips (16 * x + 8) (16 * (y + r) + 8)) out in
        ap (λ v. reaches e (16 * (y + r) + 8) && v) none ∙ and-false (reaches e (16 * (y + r) + 8)) ∙ sym none

    all : (x r : ℕ) → (reaches e (16 * (y + r) + 8) && covers t x (y + r)) ≡ covers t x (y + r)
    all x r =
        elim (cases_lt (16 * (y + r) + 8) e.top) [
          | inl above ↦ gone x r (path_over t.path 16777216 (16 * x + 8) (16 * (y + r) + 8) (let h = own.top in omega arith))
          | inr from ↦
              elim (cases_lt (16 * (y + r) + 8) e.bottom) [
                | inl inside ↦ ap (λ v. v && covers t x (y + r)) (and_from (leb e.top (16 * (y + r) + 8)) (ltb (16 * (y + r) + 8) e.bottom) (le-leb e.top (16 * (y + r) + 8) from) (lt-ltb (16 * (y + r) + 8) e.bottom inside))
                | inr below ↦ gone x r (path_under t.path 0 (16 * x + 8) (16 * (y + r) + 8) (let h = own.bottom in omega arith))
              ]
        ]

    one : (r x : ℕ) → r < n → x < w → get_or bytes (r * w + x) 0 ≡ cond (covers t x (y + r)) t.grey (get_or was (r * w + x) 0)
    one r x lr lx = p.dots r x lr lx ∙ ap (λ c. cond c t.grey (get_or was (r * w + x) 0)) (all x r)
