-- A path that is being built, over plain lists: what its words decode to, and what a write and a new point leave.
use Rattle.std.proofs.Common.{◌≡◌, ℕ, zero, suc, ◌+◌, ◌*◌, ◌%◌, ◌<◌, ◌≤◌, min, max, true, ◌≢◌, List, [], ◌∷◌, ◌++◌, length, get_or, take, drop, set, sym, refl, ap, ◌∙◌, append_assoc, mod-eq_of_lt, arith, length-drop, length-set, length-take, drop-cons, get_or-set_other, get_or-set_same, take-suc-set, drop-set-lt, take-add}
use lib.Seq.{take-set-le, drop-set-add}
use Rattle.path.specs.Path.{Point, points, finished}
use Rattle.path.specs.Points.{point}
use Rattle.path.specs.Stored.{points_in, rings_in, complete}
use Rattle.path.specs.Building.{ring_of, points_of}
use Rattle.path.specs.Extent.{path_top, path_bottom, ExtentOf}
use Rattle.path.specs.declared.builder.Front.{Front}
use Rattle.path.specs.declared.builder.Path.{Path}
use Rattle.path.specs.declared.extent.Extent.{Extent}
use Rattle.path.proofs.ExtentLaws.{reach, reach_begun, reach_added}
use Rattle.path.proofs.StoredLaws.{complete_none, complete_one_more, rings_push, rings_none, points_none, points_push, length-points, total_push, total_none, finished_none, finished_some}

-- the steps of the two folds over points
abbrev lower : ℕ → Point → ℕ
lower m p = min m p.y

abbrev higher : ℕ → Point → ℕ
higher m p = max m p.y

-- how the path lies in its words, as one fact in the order of its ghost fields
abbrev pub Laid : List ℕ → ℕ → ℕ → ℕ → ℕ → Type 0
Laid ws start last used total =
    (3072 ≤ length ws)
    × ((total ≤ 1024) × ((used ≤ 3 * total) × ((start ≤ used) × ((last ≡ 0 → used ≡ 0) × ((0 < last → used ≡ start + 1 + 2 * last)
    × ((0 < last → get_or ws start 0 ≡ last) × ((points (rings_in (take start ws)) + last ≡ total) × ((complete (take start ws) ≡ true) × Unit {0}))))))))

pub laid_of : (p : Path) → Laid p.words.now p.start p.last p.built.used p.total
laid_of p = (p.room, (p.few, (p.short, (p.begins, (p.none, (p.ends, (p.counts, (p.adds, (p.whole, tt)))))))))

-- between which levels the path at the front of the words lies
abbrev pub Spans : List ℕ → Front → Type 0
Spans ws f = ExtentOf f.extent (rings_in (take f.used ws))

pub spans_of : (p : Path) → Spans p.words.now p.built
spans_of p = record { top = p.top; bottom = p.bottom }

pub spans_before : (p : Path) → Spans p.words.now p.cleared
spans_before p = record { top = p.over; bottom = p.under }

-- the whole invariant: how the path lies, its extent, and that of the one before it
pub kept : (ws : List ℕ) (start last total : ℕ) (built cleared : Front) → Laid ws start last built.used total → Spans ws built → Spans ws cleared → (0 < built.used → cleared.used ≡ 0) →
    record {
      room : 3072 ≤ length ws;
      few : total ≤ 1024;
      short : built.used ≤ 3 * total;
      begins : start ≤ built.used;
      none : last ≡ 0 → built.used ≡ 0;
      ends : 0 < last → built.used ≡ start + 1 + 2 * last;
      counts : 0 < last → get_or ws start 0 ≡ last;
      adds : points (rings_in (take start ws)) + last ≡ total;
      whole : complete (take start ws) ≡ true;
      top : built.extent.top ≡ path_top 16777216 (rings_in (take built.used ws));
      bottom : built.extent.bottom ≡ path_bottom 0 (rings_in (take built.used ws));
      over : cleared.extent.top ≡ path_top 16777216 (rings_in (take cleared.used ws));
      under : cleared.extent.bottom ≡ path_bottom 0 (rings_in (take cleared.used ws));
      begun : 0 < built.used → cleared.used ≡ 0;
    }
kept ws start last total built cleared l s b h =
    record {
      room = l.0;
      few = l.1.0;
      short = l.1.1.0;
      begins = l.1.1.1.0;
      none = l.1.1.1.1.0;
      ends = l.1.1.1.1.1.0;
      counts = l.1.1.1.1.1.1.0;
      adds = l.1.1.1.1.1.1.1.0;
      whole = l.1.1.1.1.1.1.1.1.0;
      top = s.top;
      bottom = s.bottom;
      over = b.top;
      under = b.bottom;
      begun = h;
    }

-- the words of the open subpath's points
abbrev body : List ℕ → ℕ → ℕ → List ℕ
body ws start last = take (2 * last) (drop (start + 1) ws)

length-body : (ws : List ℕ) (start last : ℕ) → start + 1 + 2 * last ≤ length ws → length (body ws start last) ≡ 2 * last
length-body ws start last h = simp (length-take, length-drop) (omega arith)

front_is : (ws : List ℕ) (start last : ℕ) → start + 1 + 2 * last ≤ length ws → get_or ws start 0 ≡ last →
    take (start + 1 + 2 * last) ws ≡ take start ws ++ (last ∷ body ws start last)
front_is ws start last h e =
    let n : start + 1 + 2 * last ≡ start + suc (2 * last) = omega arith in
    let k : suc start ≡ start + 1 = omega arith in
    ap (λ m. take m ws) n ∙ take-add start (suc (2 * last)) ws
    ∙ ap (λ l. take start ws ++ take (suc (2 * last)) l) (drop-cons ws start 0 (omega arith))
    ∙ ap (λ v. take start ws ++ (v ∷ take (2 * last) (drop (suc start) ws))) e
    ∙ ap (λ m. take start ws ++ (last ∷ take (2 * last) (drop m ws))) k

-- the open subpath has as many points as it counts
pub length-ring : (ws : List ℕ) (start last used total : ℕ) → Laid ws start last used total → length (points_in (body ws start last)) ≡ last
length-ring ws start zero used total l = ap length points_none
length-ring ws start (suc n) used total l =
    let e = l.1.1.1.1.1.0 (omega arith) in
    length-points (suc n) (body ws start (suc n)) (length-body ws start (suc n) (omega arith))

-- the words in use are the whole path
pub rings_front : (ws : List ℕ) (start last used total : ℕ) → Laid ws start last used total →
    rings_in (take used ws) ≡ finished (rings_in (take start ws)) (points_in (body ws start last))
rings_front ws start zero used total l =
    let u : used ≡ 0 = l.1.1.1.1.0 refl in
    let s : start ≡ used = omega arith in
    sym (ap (finished (rings_in (take start ws))) points_none ∙ finished_none (rings_in (take start ws)) ∙ ap (λ m. rings_in (take m ws)) s)
rings_front ws start (suc n) used total l =
    let e = l.1.1.1.1.1.0 (omega arith) in
    let fits : start + 1 + 2 * suc n ≤ length ws = omega arith in
    let some : 0 < length (points_in (body ws start (suc n))) = omega (arith, length-ring ws start (suc n) used total l) in
    ap (λ m. rings_in (take m ws)) e ∙ ap rings_in (front_is ws start (suc n) fits (l.1.1.1.1.1.1.0 (omega arith)))
    ∙ rings_push (take start ws) (body ws start (suc n)) (suc n) l.1.1.1.1.1.1.1.1.0 (length-body ws start (suc n) fits)
    ∙ sym (finished_some (rings_in (take start ws)) (points_in (body ws start (suc n))) some)

complete_front : (ws : List ℕ) (start last used total : ℕ) → Laid ws start last used total → complete (take used ws) ≡ true
complete_front ws start zero used total l =
    let u : used ≡ 0 = l.1.1.1.1.0 refl in
    ap (λ m. complete (take m ws)) u ∙ complete_none
complete_front ws start (suc n) used total l =
    let e = l.1.1.1.1.1.0 (omega arith) in
    let fits : start + 1 + 2 * suc n ≤ length ws = omega arith in
    ap (λ m. complete (take m ws)) e ∙ ap complete (front_is ws start (suc n) fits (l.1.1.1.1.1.1.0 (omega arith)))
    ∙ complete_one_more (suc n) (take start ws) (body ws start (suc n)) (length-body ws start (suc n) fits) l.1.1.1.1.1.1.1.1.0

total_front : (ws : List ℕ) (start last used total : ℕ) → Laid ws start last used total → points (rings_in (take used ws)) ≡ total
total_front ws start zero used total l =
    let u : used ≡ 0 = l.1.1.1.1.0 refl in
    let s : used ≡ start = omega arith in
    ap (λ m. points (rings_in (take m ws))) s ∙ omega arith
total_front ws start (suc n) used total l =
    let n' = length-ring ws start (suc n) used total l in
    let f = finished_some (rings_in (take start ws)) (points_in (body ws start (suc n))) (omega arith) in
    ap points (rings_front ws start (suc n) used total l ∙ f) ∙ total_push (rings_in (take start ws)) (points_in (body ws start (suc n))) ∙ omega arith

-- a write past the words in use changes nothing of the path
pub spare : (ws : List ℕ) (start last used total i v : ℕ) → used ≤ i → Laid ws start last used total → Laid (set ws i v) start last used total
spare ws start last used total i v past l =
    let t : take start (set ws i v) ≡ take start ws = take-set-le start ws i v (omega arith) in (
      simp length-set l.0,
      (
        l.1.0,
        (
          l.1.1.0,
          (
            l.1.1.1.0,
            (
              l.1.1.1.1.0,
              (
                l.1.1.1.1.1.0,
                (
                  λ some. let e = l.1.1.1.1.1.0 some in let ne : start ≢ i = omega arith in get_or-set_other ws i start v 0 ne ∙ l.1.1.1.1.1.1.0 some,
                  (ap (λ z. points (rings_in z) + last) t ∙ l.1.1.1.1.1.1.1.0, (ap complete t ∙ l.1.1.1.1.1.1.1.1.0, tt)),
                ),
              ),
            ),
          ),
        ),
      ),
    )

pair_written : (ws : List ℕ) (m x y : ℕ) → m + 1 < length ws → take (m + 2) (set (set ws m x) (m + 1) y) ≡ take m ws ++ (x ∷ (y ∷ []))
pair_written ws m x y h =
    let a : m + 2 ≡ suc (m + 1) = omega arith in
    let b : m + 1 ≡ suc m = omega arith in
    ap (λ k. take k (set (set ws m x) (m + 1) y)) a
    ∙ take-suc-set (set ws m x) (m + 1) y (simp length-set h)
    ∙ ap (λ k. take k (set ws m x) ++ (y ∷ [])) b
    ∙ ap (λ l. l ++ (y ∷ [])) (take-suc-set ws m x (omega arith))
    ∙ append_assoc (take m ws) (x ∷ []) (y ∷ [])

-- two words after a subpath's points are one more point
point_written : (ws : List ℕ) (from n x y : ℕ) → from + 2 * n + 1 < length ws → x < 16777216 → y < 16777216 →
    points_in (take (2 * (n + 1)) (drop from (set (set ws (from + 2 * n) x) (from + 2 * n + 1) y))) ≡ points_in (take (2 * n) (drop from ws)) ++ (point x y ∷ [])
point_written ws from n x y h hx hy =
    let k : 2 * (n + 1) ≡ 2 * n + 2 = omega arith in
    let j : from + 2 * n + 1 ≡ from + (2 * n + 1) = omega arith in
    let ld = length-drop from ws in
    let len : length (take (2 * n) (drop from ws)) ≡ 2 * n = simp (length-take, length-drop) (omega arith) in
    ap (λ m. points_in (take m (drop from (set (set ws (from + 2 * n) x) (from + 2 * n + 1) y)))) k
    ∙ ap (λ m. points_in (take (2 * n + 2) (drop from (set (set ws (from + 2 * n) x) m y)))) j
    ∙ ap (λ l. points_in (take (2 * n + 2) l)) (drop-set-add from (set ws (from + 2 * n) x) (2 * n + 1) y ∙ ap (λ l. set l (2 * n + 1) y) (drop-set-add from ws (2 * n) x))
    ∙ ap points_in (pair_written (drop from ws) (2 * n) x y (omega arith))
    ∙ points_push n (take (2 * n) (drop from ws)) x y len
    ∙ ap (λ a. points_in (take (2 * n) (drop from ws)) ++ (point a (y % 16777216) ∷ [])) (mod-eq_of_lt hx)
    ∙ ap (λ b. points_in (take (2 * n) (drop from ws)) ++ (point x b ∷ [])) (mod-eq_of_lt hy)

-- the words after a subpath is begun, and after a point is added
abbrev pub begun : List ℕ → ℕ → ℕ → ℕ → List ℕ
begun ws used x y = set (set (set ws used 1) (used + 1) x) (used + 2) y

abbrev pub added : List ℕ → ℕ → ℕ → ℕ → ℕ → ℕ → List ℕ
added ws start last used x y = set (set (set ws used x) (used + 1) y) start (last + 1)

front_begun : (ws : List ℕ) (used x y : ℕ) → take used (begun ws used x y) ≡ take used ws
front_begun ws used x y =
    take-set-le used (set (set ws used 1) (used + 1) x) (used + 2) y (omega arith)
    ∙ take-set-le used (set ws used 1) (used + 1) x (omega arith)
    ∙ take-set-le used ws used 1 (omega arith)

pub rings_begun : (ws : List ℕ) (start last used total x y : ℕ) → Laid ws start last used total →
    rings_in (take used (begun ws used x y)) ≡ finished (rings_in (take start ws)) (points_in (body ws start last))
rings_begun ws start last used total x y l = ap rings_in (front_begun ws used x y) ∙ rings_front ws start last used total l

pub ring_begun : (ws : List ℕ) (used x y : ℕ) → used + 2 < length ws → x < 16777216 → y < 16777216 →
    points_in (body (begun ws used x y) used 1) ≡ point x y ∷ []
ring_begun ws used x y h hx hy =
    let a : used + 1 ≡ used + 1 + 2 * 0 = omega arith in
    let b : used + 2 ≡ used + 1 + 2 * 0 + 1 = omega arith in
    let len = length-set ws used 1 in
    ap (λ i. points_in (body (set (set (set ws used 1) i x) (used + 2) y) used 1)) a
    ∙ ap (λ i. points_in (body (set (set (set ws used 1) (used + 1 + 2 * 0) x) i y) used 1)) b
    ∙ point_written (set ws used 1) (used + 1) 0 x y (omega arith) hx hy
    ∙ ap (λ ps. ps ++ (point x y ∷ [])) points_none

pub laid_begun : (ws : List ℕ) (start last used total x y : ℕ) → total < 1024 → Laid ws start last used total → Laid (begun ws used x y) used 1 (used + 3) (total + 1)
laid_begun ws start last used total x y few l =
    let l1 = length-set ws used 1 in
    let ne1 : used ≢ used + 2 = omega arith in
    let ne2 : used ≢ used + 1 = omega arith in
    let count = get_or-set_other (set (set ws used 1) (used + 1) x) (used + 2) used y 0 ne1 ∙ get_or-set_other (set ws used 1) (used + 1) used x 0 ne2 ∙ get_or-set_same ws used 1 0 (omega arith) in
    let f = front_begun ws used x y in
    let t = total_front ws start last used total l in (
      simp length-set l.0,
      (omega arith, (omega arith, (omega arith, (λ none. omega arith, (λ some. omega arith, (λ some. count, (ap (λ z. points (rings_in z) + 1) f ∙ omega arith, (ap complete f ∙ complete_front ws start last used total l, tt)))))))),
    )

front_added : (ws : List ℕ) (start last used x y : ℕ) → start ≤ used → take start (added ws start last used x y) ≡ take start ws
front_added ws start last used x y h =
    take-set-le start (set (set ws used x) (used + 1) y) start (last + 1) (omega arith)
    ∙ take-set-le start (set ws used x) (used + 1) y (omega arith)
    ∙ take-set-le start ws used x h

pub rings_added : (ws : List ℕ) (start last used total x y : ℕ) → Laid ws start last used total → rings_in (take start (added ws start last used x y)) ≡ rings_in (take start ws)
rings_added ws start last used total x y l = ap rings_in (front_added ws start last used x y l.1.1.1.0)

pub ring_added : (ws : List ℕ) (start last used total x y : ℕ) → Laid ws start last used total → 0 < last → total < 1024 → x < 16777216 → y < 16777216 →
    points_in (body (added ws start last used x y) start (last + 1)) ≡ points_in (body ws start last) ++ (point x y ∷ [])
ring_added ws start last used total x y l some few hx hy =
    let e = l.1.1.1.1.1.0 some in
    ap (λ z. points_in (take (2 * (last + 1)) z)) (drop-set-lt (start + 1) (set (set ws used x) (used + 1) y) start (last + 1) (omega arith))
    ∙ ap (λ u. points_in (take (2 * (last + 1)) (drop (start + 1) (set (set ws u x) (u + 1) y)))) e
    ∙ point_written ws (start + 1) last x y (omega arith) hx hy

pub laid_added : (ws : List ℕ) (start last used total x y : ℕ) → 0 < last → total < 1024 → Laid ws start last used total → Laid (added ws start last used x y) start (last + 1) (used + 2) (total + 1)
laid_added ws start last used total x y some few l =
    let e = l.1.1.1.1.1.0 some in
    let f = front_added ws start last used x y (omega arith) in
    let len : start < length (set (set ws used x) (used + 1) y) = simp length-set (omega arith) in
    let a = l.1.1.1.1.1.1.1.0 in (
      simp length-set l.0,
      (omega arith, (omega arith, (omega arith, (λ none. omega arith, (λ more. omega arith, (λ more. get_or-set_same (set (set ws used x) (used + 1) y) start (last + 1) 0 len, (ap (λ z. points (rings_in z) + (last + 1)) f ∙ omega arith, (ap complete f ∙ l.1.1.1.1.1.1.1.1.0, tt)))))))),
    )

-- the empty path
pub laid_none : (ws : List ℕ) (used : ℕ) → used ≡ 0 → 3072 ≤ length ws → Laid ws 0 0 used 0
laid_none ws used e h =
    let t : points (rings_in []) ≡ 0 = ap points rings_none ∙ total_none in
    (h, (omega arith, (omega arith, (omega arith, (λ z. e, (λ some. omega arith, (λ some. omega arith, (omega arith, (complete_none, tt)))))))))

-- the words in use with a subpath begun, and with a point added
all_begun : (ws : List ℕ) (start last used total x y : ℕ) → Laid ws start last used total → total < 1024 → x < 16777216 → y < 16777216 →
    rings_in (take (used + 3) (begun ws used x y)) ≡ rings_in (take used ws) ++ ((point x y ∷ []) ∷ [])
all_begun ws start last used total x y l few hx hy =
    rings_front (begun ws used x y) used 1 (used + 3) (total + 1) (laid_begun ws start last used total x y few l)
    ∙ ap (λ z. finished (rings_in z) (points_in (body (begun ws used x y) used 1))) (front_begun ws used x y)
    ∙ ap (finished (rings_in (take used ws))) (ring_begun ws used x y (omega arith) hx hy)
    ∙ finished_some (rings_in (take used ws)) (point x y ∷ []) (omega arith)

all_open : (ws : List ℕ) (start last used total : ℕ) → Laid ws start last used total → 0 < last → rings_in (take used ws) ≡ rings_in (take start ws) ++ (points_in (body ws start last) ∷ [])
all_open ws start last used total l some =
    rings_front ws start last used total l ∙ finished_some (rings_in (take start ws)) (points_in (body ws start last)) (let n = length-ring ws start last used total l in omega arith)

all_added : (ws : List ℕ) (start last used total x y : ℕ) → Laid ws start last used total → 0 < last → total < 1024 → x < 16777216 → y < 16777216 →
    rings_in (take (used + 2) (added ws start last used x y)) ≡ rings_in (take start ws) ++ ((points_in (body ws start last) ++ (point x y ∷ [])) ∷ [])
all_added ws start last used total x y l some few hx hy =
    all_open (added ws start last used x y) start (last + 1) (used + 2) (total + 1) (laid_added ws start last used total x y some few l) (omega arith)
    ∙ ap (λ rs. rs ++ (points_in (body (added ws start last used x y) start (last + 1)) ∷ [])) (rings_added ws start last used total x y l)
    ∙ ap (λ r. rings_in (take start ws) ++ (r ∷ [])) (ring_added ws start last used total x y l some few hx hy)

-- what a fold over the points comes to after a write past the words in use, with a subpath begun, and with a point added
reach_spare : (f : ℕ → Point → ℕ) (t m : ℕ) (ws : List ℕ) (used i v : ℕ) → used ≤ i → m ≡ reach f t (rings_in (take used ws)) → m ≡ reach f t (rings_in (take used (set ws i v)))
reach_spare f t m ws used i v past e = e ∙ ap (λ z. reach f t (rings_in z)) (sym (take-set-le used ws i v past))

pub spans_spare : (ws : List ℕ) (f : Front) (i v : ℕ) → f.used ≤ i → Spans ws f → Spans (set ws i v) f
spans_spare ws f i v past s = record { top = reach_spare lower 16777216 f.extent.top ws f.used i v past s.top; bottom = reach_spare higher 0 f.extent.bottom ws f.used i v past s.bottom }

pub spans_begun : (ws : List ℕ) (start last total x y : ℕ) (f : Front) (e : Extent) → Laid ws start last f.used total → total < 1024 → x < 16777216 → y < 16777216 →
    Spans ws f → e.top ≡ min f.extent.top y → e.bottom ≡ max f.extent.bottom y → Spans (begun ws f.used x y) (record { used = f.used + 3; extent = e })
spans_begun ws start last total x y f e l few hx hy s eu ed = record { top = step lower 16777216 e.top f.extent.top eu s.top; bottom = step higher 0 e.bottom f.extent.bottom ed s.bottom }
  where
    step : (g : ℕ → Point → ℕ) (t n m : ℕ) → n ≡ g m (point x y) → m ≡ reach g t (rings_in (take f.used ws)) → n ≡ reach g t (rings_in (take (f.used + 3) (begun ws f.used x y)))
    step g t n m is h =
        is ∙ ap (λ k. g k (point x y)) h ∙ sym (reach_begun g t (rings_in (take f.used ws)) (point x y)) ∙ ap (reach g t) (sym (all_begun ws start last f.used total x y l few hx hy))

pub spans_added : (ws : List ℕ) (start last total x y : ℕ) (f : Front) (e : Extent) → Laid ws start last f.used total → 0 < last → total < 1024 → x < 16777216 → y < 16777216 →
    Spans ws f → e.top ≡ min f.extent.top y → e.bottom ≡ max f.extent.bottom y → Spans (added ws start last f.used x y) (record { used = f.used + 2; extent = e })
spans_added ws start last total x y f e l some few hx hy s eu ed = record { top = step lower 16777216 e.top f.extent.top eu s.top; bottom = step higher 0 e.bottom f.extent.bottom ed s.bottom }
  where
    step : (g : ℕ → Point → ℕ) (t n m : ℕ) → n ≡ g m (point x y) → m ≡ reach g t (rings_in (take f.used ws)) → n ≡ reach g t (rings_in (take (f.used + 2) (added ws start last f.used x y)))
    step g t n m is h =
        is ∙ ap (λ k. g k (point x y)) (h ∙ ap (reach g t) (all_open ws start last f.used total l some)) ∙ sym (reach_added g t (rings_in (take start ws)) (points_in (body ws start last)) (point x y)) ∙ ap (reach g t) (sym (all_added ws start last f.used total x y l some few hx hy))

pub spans_none : (ws : List ℕ) (f : Front) → f.used ≡ 0 → ExtentOf f.extent [] → Spans ws f
spans_none ws f u e =
    record {
      top = e.top ∙ sym (ap (λ n. path_top 16777216 (rings_in (take n ws))) u ∙ ap (path_top 16777216) rings_none);
      bottom = e.bottom ∙ sym (ap (λ n. path_bottom 0 (rings_in (take n ws))) u ∙ ap (path_bottom 0) rings_none);
    }

-- how many points there are
pub total_is : (p : Path) → p.total ≡ points_of p
total_is p = let n = length-ring p.words.now p.start p.last p.built.used p.total (laid_of p) in let a = p.adds in omega arith

pub last_is : (p : Path) → p.last ≡ length (ring_of p)
last_is p = sym (length-ring p.words.now p.start p.last p.built.used p.total (laid_of p))
