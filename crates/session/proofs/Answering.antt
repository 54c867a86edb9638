-- What is answered to a question, way by way, and what an answer leaves in the bytes.
use Rattle.std.proofs.Common.{◌≡◌, ℕ, ◌+◌, ◌*◌, ◌<◌, ◌≤◌, Bool, true, false, cond, ◌&&◌, ltb, leb, ◌⊎◌, List, [], ◌++◌, length, get_or, take, drop, replicate, sym, refl, ap, ◌∙◌, inl, inr}
use Rattle.std.proofs.lemmas.List.{take_at}
use Rattle.std.proofs.lemmas.Bool.{le-leb, lt-leb, and_from, and_left, and_right}
use Rattle.tokens.specs.Stored.{decode}
use Rattle.path.specs.Path.{Paint}
use Rattle.raster.specs.Coverage.{rows}
use Rattle.raster.proofs.BandLaws.{length-rows}
use Rattle.machine.specs.Machine.{run, begin}
use Rattle.session.specs.Jobs.{Asked, band, Answer, dots, refused}
use Rattle.session.specs.Regions.{regs, Roomy, path_room, clip_room, steps_in, width_in, height_in, run_of, pages_at, ending_at, answer_in, says_in, put_answer, next_in}
use Rattle.session.proofs.Cutting.{same_regs}

-- a run of the stored tokens under the header's steps
pub run_at : (text header : List ℕ) (n : ℕ) → n ≡ steps_in header → run n (begin (decode text)) ≡ run_of text header
unfolding run_of
run_at text header n e = ap (λ z. run z (begin (decode text))) e

abbrev fits : ℕ → ℕ → ℕ → ℕ → ℕ → Bool
fits room w t y n = (leb (y + n) t && leb n 64) && leb (n * w) room

pub no_page : (room : ℕ) (ps : List (List Paint)) (e w t p y n : ℕ) → ltb p (length ps) ≡ false → answer_in room ps e w t (band p y n) ≡ refused 4
unfolding answer_in
no_page room ps e w t p y n h = simp h

pub no_rows : (room : ℕ) (ps : List (List Paint)) (e w t p y n : ℕ) → ltb p (length ps) ≡ true → fits room w t y n ≡ false → answer_in room ps e w t (band p y n) ≡ refused 5
unfolding answer_in
no_rows room ps e w t p y n h k = simp (h, k)

has_dots : (room : ℕ) (ps : List (List Paint)) (e w t p y n : ℕ) → ltb p (length ps) ≡ true → fits room w t y n ≡ true → answer_in room ps e w t (band p y n) ≡ dots (rows (get_or ps p []) w y n)
unfolding answer_in
has_dots room ps e w t p y n h k = simp (h, k)

-- a refusal leaves zeros
pub zeros_put : (a : Answer) (k : ℕ) (bs : List ℕ) → a ≡ refused k → replicate (length bs) 0 ≡ put_answer a bs
unfolding put_answer
zeros_put a k bs e = sym (ap (λ z. put_answer z bs) e)

dots_put : (a : Answer) (ps : List Paint) (w y n : ℕ) (bs : List ℕ) → a ≡ dots (rows ps w y n) → rows ps w y n ++ drop (n * w) bs ≡ put_answer a bs
unfolding put_answer
dots_put a ps w y n bs e = ap (λ z. rows ps w y n ++ drop z bs) (sym (length-rows ps w y n)) ∙ sym (ap (λ z. put_answer z bs) e)

-- rows at the front of the bytes are the answer, and what it leaves
pub rows_answer : (room e t p w y n w2 y2 n2 : ℕ) (ps qs : List (List Paint)) (bs cs : List ℕ) → qs ≡ ps → w2 ≡ w → y2 ≡ y → n2 ≡ n → ltb p (length ps) ≡ true → fits room w t y n ≡ true →
    cs ≡ rows (get_or qs p []) w2 y2 n2 ++ drop (n2 * w2) bs → (dots (take (n2 * w2) cs) ≡ answer_in room ps e w t (band p y n)) × (cs ≡ put_answer (answer_in room ps e w t (band p y n)) bs)
rows_answer room e t p w y n w2 y2 n2 ps qs bs cs same i j k h f painted =
    let page = get_or ps p [] in
    let b : cs ≡ rows page w y n ++ drop (n * w) bs = cc in
    let a = has_dots room ps e w t p y n h f in
    let m : n2 * w2 ≡ n * w = cc in
    (ap (λ z. dots (take z cs)) m ∙ ap (λ z. dots (take (n * w) z)) b ∙ ap dots (take_at (rows page w y n) (drop (n * w) bs) (n * w) (length-rows page w y n)) ∙ sym a, b ∙ dots_put _ page w y n bs a)

-- whether there is room for a path and for clips
abbrev pub room : ℕ → ℕ → Bool
room path clips = leb path_room path && leb clip_room clips

has_room : (path clips : ℕ) → 3072 ≤ path → 3072 ≤ clips → room path clips ≡ true
unfolding path_room clip_room
has_room path clips h k = and_from _ _ (le-leb 3072 path h) (le-leb 3072 clips k)

pub cramped : (path clips : ℕ) → (path < 3072) ⊎ (clips < 3072) → room path clips ≡ false
unfolding path_room clip_room
cramped path clips (inl h) = and_left _ _ (lt-leb 3072 path h)
cramped path clips (inr h) = and_right _ _ (lt-leb 3072 clips h)

-- what is answered and left where there is room
pub answered : (text header path clips kept bytes p c b : List ℕ) (q : Asked) (a : Answer) → Roomy (regs text header path clips kept bytes) →
    a ≡ answer_in (length bytes) (pages_at text header) (ending_at text header) (width_in header) (height_in header) q →
    b ≡ put_answer (answer_in (length bytes) (pages_at text header) (ending_at text header) (width_in header) (height_in header) q) bytes →
    p ≡ replicate (length path) 0 → c ≡ replicate (length clips) 0 →
    (a ≡ says_in (regs text header path clips kept bytes) q) × (regs text header p c kept b ≡ next_in (regs text header path clips kept bytes) q)
answered text header path clips kept bytes p c b q a roomy e h f g =
    let told = answer_in (length bytes) (pages_at text header) (ending_at text header) (width_in header) (height_in header) q in
    let says : told ≡ says_in (regs text header path clips kept bytes) q = sym (ap (λ z. cond z told (refused 5)) (has_room (length path) (length clips) roomy.0 roomy.1)) in
    (e ∙ says, same_regs _ _ _ _ _ _ _ _ _ _ _ _ refl refl f g refl (h ∙ ap (λ z. put_answer z bytes) says))

-- and where there is none
pub unanswered : (text header path clips kept bytes : List ℕ) (q : Asked) → (length path < 3072) ⊎ (length clips < 3072) →
    (refused 5 ≡ says_in (regs text header path clips kept bytes) q)
    × (regs text header (replicate (length path) 0) (replicate (length clips) 0) kept (replicate (length bytes) 0) ≡ next_in (regs text header path clips kept bytes) q)
unanswered text header path clips kept bytes q tight =
    let told = answer_in (length bytes) (pages_at text header) (ending_at text header) (width_in header) (height_in header) q in
    let says : refused 5 ≡ says_in (regs text header path clips kept bytes) q = sym (ap (λ z. cond z told (refused 5)) (cramped (length path) (length clips) tight)) in
    (says, same_regs _ _ _ _ _ _ _ _ _ _ _ _ refl refl refl refl refl (zeros_put _ 5 bytes (sym says)))
