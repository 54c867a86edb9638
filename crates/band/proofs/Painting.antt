-- Things painted onto the bytes of a band: one, and then all of a page.
use Rattle.std.proofs.Common.{◌≡◌, ℕ, zero, suc, ◌+◌, ◌*◌, ◌/◌, ◌%◌, ◌<◌, ◌≤◌, Bool, true, false, cond, not, ◌&&◌, eqb, List, [], ◌∷◌, ◌++◌, length, get_or, replicate, sym, refl, ap, ◌∙◌, inl, inr, suc-mul, add_comm, zero-add, zero-mul, add-one, arith}
use Rattle.std.proofs.lemmas.Nat.{div-add-mod', div-mul-add, mod-mul-add, div_below, mod_below}
use Rattle.std.proofs.lemmas.List.FromFn.{length-map-range_with_len, get_or-map-range_with_len, fill_by_all}
use Rattle.std.proofs.lemmas.List.{append-nil, append_assoc, length-append, take_at, drop_at, get_or_past, replicate_more, replicate-append-replicate}
use Rattle.std.proofs.lemmas.Bool.{lt-ltb, le-ltb, le-leb, eq-eqb, cases_lt, and_from, not_from_false, cond-true, cond-false}
use Rattle.path.specs.Path.{Paint}
use Rattle.path.specs.Stored.{rings_in, paths_in}
use Rattle.machine.specs.Clips.{clips_in}
use Rattle.machine.specs.Abstraction.{paint_in}
use Rattle.raster.specs.Band.{PaintedBand}
use Rattle.raster.specs.Coverage.{in_path, covers, dot_on, row, rows}
use Rattle.raster.specs.Thing.{thing}
use Rattle.raster.proofs.Painting.{clips_turned}
use Rattle.raster.proofs.BandLaws.{length-rows, row_ends, painted_more}
use Rattle.run.specs.Sinks.{all_painted}
use Rattle.raster.specs.declared.band.Band.{Band}
use Rattle.band.specs.Canvas.{Canvas, fits, byte_after, painted, on_page, paint_onto}

abbrev pub size : Band → ℕ
size b = b.count * b.width

-- the band's rows of a page on which things were painted
abbrev pub band_rows : List Paint → Band → List ℕ
band_rows ps b = rows ps b.width b.first b.count

abbrev pub canvas : Band → ℕ → Bool → List ℕ → Canvas
canvas b k d bs = record { band = b; before = k; done = d; bytes = bs }

-- a band is on a page, so it fits where there are bytes enough
pub all_fits : (b : Band) (n : ℕ) → size b ≤ n → fits b n ≡ true
all_fits b n few = and_from _ _ (le-leb b.width 8192 b.narrow) (and_from _ _ (le-leb (b.first + b.count) 65536 b.near) (le-leb (size b) n few))

-- where there is a dot, rows are not empty
some_width : (i n w : ℕ) → i < n * w → 0 < w
some_width i n w lt = elim (cases_lt 0 w) [ inl h ↦ h | inr h ↦ let z : w ≡ 0 = omega arith in let p : n * w ≡ n * 0 = ap (λ k. n * k) z in omega arith ]

inside : (t : Paint) (b : Band) (bs : List ℕ) (i : ℕ) → i < size b → byte_after t b bs i ≡ cond (covers t (i % b.width) (b.first + i / b.width)) t.grey (get_or bs i 0)
inside t b bs i lt = ap (λ c. cond (c && covers t (i % b.width) (b.first + i / b.width)) t.grey (get_or bs i 0)) (lt-ltb i (size b) lt)

outside : (t : Paint) (b : Band) (bs : List ℕ) (i : ℕ) → size b ≤ i → byte_after t b bs i ≡ get_or bs i 0
outside t b bs i le = ap (λ c. cond (c && covers t (i % b.width) (b.first + i / b.width)) t.grey (get_or bs i 0)) (le-ltb i (size b) le)

-- the bytes that a thing leaves are those of each thing that covers the same
painted_is : (was bytes : List ℕ) (b : Band) (t u : Paint) → length bytes ≡ length was → t.grey ≡ u.grey → ((x y : ℕ) → covers t x y ≡ covers u x y) →
    PaintedBand was bytes b.width b.first b.count t → bytes ≡ painted u b was
unfolding painted
painted_is was bytes b t u len grey same p =
    fill_by_all (byte_after u b was) bytes (length was) 0 len
    (λ i lt.
    elim (cases_lt i (size b)) [
      | inl within ↦
          let w = b.width in
          let some = some_width i b.count w within in
          let place = div-add-mod' i w in
          sym (ap (λ k. get_or bytes k 0) place)
          ∙ p.dots (i / w) (i % w) (div_below i w b.count some within) (mod_below i w some)
          ∙ ap (λ k. cond (covers t (i % w) (b.first + i / w)) t.grey (get_or was k 0)) place
          ∙ ap (λ g. cond (covers t (i % w) (b.first + i / w)) g (get_or was i 0)) grey
          ∙ ap (λ c. cond c u.grey (get_or was i 0)) (same (i % w) (b.first + i / w))
          ∙ sym (inside u b was i within)
      | inr past ↦ p.rest i past ∙ sym (outside u b was i past)
    ])

-- the rows are painted by words that have the oldest clip first, the written machine has the newest first
same_dots : (path clips : List ℕ) (g x y : ℕ) → covers (thing path clips g) x y ≡ covers (paint_in path clips g) x y
unfolding clips_in
same_dots path clips g x y = ap (λ c. in_path (rings_in path) (16 * x + 8) (16 * y + 8) && c) (sym (clips_turned (paths_in clips) (16 * x + 8) (16 * y + 8)))

pub paints : (b : Band) (was bytes : List ℕ) (k : ℕ) (d : Bool) (path clips : List ℕ) (g : ℕ) → d ≡ false → k ≡ 0 → fits b (length was) ≡ true → length bytes ≡ length was →
    PaintedBand was bytes b.width b.first b.count (thing path clips g) → canvas b k d bytes ≡ paint_onto (paint_in path clips g) (canvas b k d was)
paints b was bytes k d path clips g opened ours ok len p =
    let now = and_from (not d) (eqb k 0 && fits b (length was)) (not_from_false d opened) (and_from (eqb k 0) (fits b (length was)) (eq-eqb k 0 ours) ok) in
    ap (canvas b k d) (painted_is was bytes b (thing path clips g) (paint_in path clips g) len refl (same_dots path clips g) p)
    ∙ sym (cond-true (on_page (canvas b k d was)) _ _ now)

byte_painted : (t : Paint) (b : Band) (bs : List ℕ) (i : ℕ) → i < length bs → get_or (painted t b bs) i 0 ≡ byte_after t b bs i
unfolding painted
byte_painted t b bs i lt = get_or-map-range_with_len (byte_after t b bs) 0 (length bs) i i 0 lt (zero-add i)

length-painted : (t : Paint) (b : Band) (bs : List ℕ) → length (painted t b bs) ≡ length bs
unfolding painted
length-painted t b bs = length-map-range_with_len (byte_after t b bs) 0 (length bs)

dots_painted : (t : Paint) (b : Band) (bs : List ℕ) → size b ≤ length bs → (r x : ℕ) → r < b.count → x < b.width →
    get_or (painted t b bs) (r * b.width + x) 0 ≡ cond (covers t x (b.first + r)) t.grey (get_or bs (r * b.width + x) 0)
dots_painted t b bs le r x lr lx =
    let w = b.width in
    let i = r * w + x in
    let e = row_ends r b.count w lr in
    byte_painted t b bs i (omega arith)
    ∙ inside t b bs i (omega arith)
    ∙ ap (λ m. cond (covers t m (b.first + i / w)) t.grey (get_or bs i 0)) (mod-mul-add r w x lx)
    ∙ ap (λ q. cond (covers t x (b.first + q)) t.grey (get_or bs i 0)) (div-mul-add r w x lx)

rest_painted : (t : Paint) (b : Band) (bs : List ℕ) (i : ℕ) → size b ≤ i → get_or (painted t b bs) i 0 ≡ get_or bs i 0
rest_painted t b bs i past =
    elim (cases_lt i (length bs)) [
      | inl lt ↦ byte_painted t b bs i lt ∙ outside t b bs i past
      | inr ge ↦ get_or_past (painted t b bs) i 0 (let l = length-painted t b bs in omega arith) ∙ sym (get_or_past bs i 0 ge)
    ]

-- the rows of things painted become the rows of these and one more
painted_rows : (t : Paint) (b : Band) (ps : List Paint) (rest : List ℕ) → painted t b (band_rows ps b ++ rest) ≡ band_rows (ps ++ (t ∷ [])) b ++ rest
painted_rows t b ps rest =
    let was = band_rows ps b ++ rest in
    let l = length-rows ps b.width b.first b.count in
    let a = length-append (band_rows ps b) rest in
    painted_more was (painted t b was) b.width b.first b.count t (length-painted t b was) (omega arith) (dots_painted t b was (omega arith)) (rest_painted t b was) ps
    (take_at (band_rows ps b) rest (size b) l)
    ∙ ap (λ z. band_rows (ps ++ (t ∷ [])) b ++ z) (drop_at (band_rows ps b) rest (size b) l)

one_on_page : (b : Band) (rest : List ℕ) → fits b (size b + length rest) ≡ true → (t : Paint) (ps : List Paint) →
    paint_onto t (canvas b 0 false (band_rows ps b ++ rest)) ≡ canvas b 0 false (band_rows (ps ++ (t ∷ [])) b ++ rest)
one_on_page b rest ok t ps =
    let was = canvas b 0 false (band_rows ps b ++ rest) in
    let len : length (band_rows ps b ++ rest) ≡ size b + length rest = length-append (band_rows ps b) rest ∙ ap (λ n. n + length rest) (length-rows ps b.width b.first b.count) in
    ap (λ c. cond c (canvas b 0 false (painted t b was.bytes)) was) (ap (fits b) len ∙ ok) ∙ ap (canvas b 0 false) (painted_rows t b ps rest)

-- all things of the page that is asked for
pub all_on_page : (b : Band) (rest : List ℕ) → fits b (size b + length rest) ≡ true → (qs ps : List Paint) →
    all_painted paint_onto qs (canvas b 0 false (band_rows ps b ++ rest)) ≡ canvas b 0 false (band_rows (ps ++ qs) b ++ rest)
unfolding all_painted
all_on_page b rest ok [] ps = ap (λ z. canvas b 0 false (band_rows z b ++ rest)) (sym (append-nil ps))
all_on_page b rest ok (q ∷ qs) ps =
    ap (all_painted paint_onto qs) (one_on_page b rest ok q ps)
    ∙ all_on_page b rest ok qs (ps ++ (q ∷ []))
    ∙ ap (λ z. canvas b 0 false (band_rows z b ++ rest)) (append_assoc ps (q ∷ []) qs)

-- things of other pages
pub off_page : (qs : List Paint) (c : Canvas) → on_page c ≡ false → all_painted paint_onto qs c ≡ c
unfolding all_painted
off_page [] c e = refl
off_page (q ∷ qs) c e = ap (all_painted paint_onto qs) (cond-false (on_page c) _ c e) ∙ off_page qs c e

-- a page on which nothing was painted is white
white_row : (w y : ℕ) → row [] w y ≡ replicate w 255
unfolding row dot_on
white_row zero y = refl
white_row (suc w) y = ap (λ z. z ++ (255 ∷ [])) (white_row w y) ∙ replicate_more w 255 ∙ ap (λ n. replicate n 255) (add-one w)

pub white_rows : (w y n : ℕ) → rows [] w y n ≡ replicate (n * w) 255
unfolding rows
white_rows w y zero = ap (λ n. replicate n 255) (sym (zero-mul w))
white_rows w y (suc n) =
    ap (λ z. z ++ rows [] w (suc y) n) (white_row w y)
    ∙ ap (λ z. replicate w 255 ++ z) (white_rows w (suc y) n)
    ∙ replicate-append-replicate w (n * w) 255
    ∙ ap (λ k. replicate k 255) (add_comm w (n * w) ∙ sym (suc-mul n w))
