-- What painting one thing onto a band of rows comes to. Cited by the contracts of painting a band. Assumes nothing: these are definitions.
use Rattle.std.specs.Prelude.{◌≡◌, ℕ, ◌+◌, ◌*◌, ◌<◌, ◌≤◌, Bool, cond, ◌&&◌, List, [], ◌∷◌, ◌++◌, take, drop, nat_le, nat_lt, slice_index}
use Rattle.path.specs.Path.{Paint}
use Rattle.path.specs.declared.extent.Extent.{Extent}
use Rattle.raster.specs.Coverage.{covers, rows}

-- the bytes of n rows of w dots from row y on, before and after thing t is painted onto them
pub record PaintedBand (was bytes : List ℕ) (w y n : ℕ) (t : Paint) : Type 0 where
  -- each dot that the thing covers has its grey, each other one is as it was
  pub dots : (r x : ℕ) → r < n → x < w → slice_index bytes (r * w + x) ≡ cond (covers t x (y + r)) t.grey (slice_index was (r * w + x))
  -- and so are the bytes behind the band
  pub rest : (i : ℕ) → n * w ≤ i → slice_index bytes i ≡ slice_index was i
  -- so that the rows of things painted are then the rows of these and the thing
  pub more : (ps : List Paint) → take (n * w) was ≡ rows ps w y n → bytes ≡ rows (ps ++ (t ∷ [])) w y n ++ drop (n * w) was

-- whether an extent has a level
abbrev pub reaches : Extent → ℕ → Bool
reaches e b = nat_le e.top b && nat_lt b e.bottom

-- the same where rows are left alone whose middle is outside of an extent, whatever extent that is
pub record PaintedWithin (was bytes : List ℕ) (w y n : ℕ) (t : Paint) (e : Extent) : Type 0 where
  pub dots : (r x : ℕ) → r < n → x < w →
      slice_index bytes (r * w + x) ≡ cond (reaches e (16 * (y + r) + 8) && covers t x (y + r)) t.grey (slice_index was (r * w + x))
  pub rest : (i : ℕ) → n * w ≤ i → slice_index bytes i ≡ slice_index was i
