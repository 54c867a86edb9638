-- Graphics states in force and kept, over plain lists: what more words of clips leave of them.
use Rattle.std.proofs.Common.{◌≡◌, ℕ, ◌+◌, ◌≤◌, List, [], ◌∷◌, ◌++◌, map, length, take, drop, set, sym, refl, ap, ◌∙◌, arith, length-set, length-append}
use Rattle.std.proofs.lemmas.List.{take-take, take_at, take_more_set, append_assoc, length-take-le}
use Rattle.machine.specs.Machine.{Manner, State, with_manner}
use Rattle.machine.specs.Clips.{clips_in, clip_words, weight_in, Well, Kept}
use Rattle.path.specs.Stored.{pieces}
use Rattle.machine.specs.Abstraction.{graphics_of}
use Rattle.machine.specs.declared.graphics.GraphicsState.{GraphicsState}

-- words that are the same up to n are the same up to less
less : (ws vs : List ℕ) (k n : ℕ) → k ≤ n → take n vs ≡ take n ws → take k vs ≡ take k ws
less ws vs k n le same = sym (take-take k n vs le) ∙ ap (take k) same ∙ take-take k n ws le

well_as : (ws vs : List ℕ) (g : GraphicsState) → take g.clips vs ≡ take g.clips ws → length vs ≡ length ws → Well ws g → Well vs g
well_as ws vs g same len w =
    record {
      fits = (let f = w.fits in omega arith);
      front = ap (λ l. clip_words (pieces 1 l)) same ∙ w.front ∙ sym same;
      weighs = w.weighs ∙ sym (ap weight_in same);
      light = w.light;
    }

-- more words in force, or others behind them: the kept states have a front part of them as before
pub kept_clipped : (ws vs : List ℕ) (n m : ℕ) (gs : List GraphicsState) → n ≤ m → take n vs ≡ take n ws → length vs ≡ length ws → Kept ws n gs → Kept vs m gs
kept_clipped ws vs n m [] le same len k = tt
kept_clipped ws vs n m (g ∷ gs) le same len k =
    let front = less ws vs g.clips n k.0 same in
    (omega (arith, k.0), (well_as ws vs g front len k.1.0, kept_clipped ws vs g.clips g.clips gs (omega arith) front len k.1.1))

pub saved_clipped : (ws vs : List ℕ) (n : ℕ) (gs : List GraphicsState) → take n vs ≡ take n ws → Kept ws n gs → map (graphics_of vs) gs ≡ map (graphics_of ws) gs
saved_clipped ws vs n [] same k = refl
saved_clipped ws vs n (g ∷ gs) same k =
    let front = less ws vs g.clips n k.0 same in
    ap {B = List Manner} (λ l. record { grey = g.grey; scale = g.scale; left = g.left; top = g.top; clips = clips_in l } ∷ map (graphics_of vs) gs) front
    ∙ ap (λ l. graphics_of ws g ∷ l) (saved_clipped ws vs g.clips gs front k.1.1)

-- a clip's words behind their count, and the words before it
module _ (ws vs us : List ℕ) (a n : ℕ) (within : a + 1 + n ≤ length ws) (many : length us ≡ n) (is : vs ≡ take (a + 1) (set ws a n) ++ (us ++ drop (a + 1 + length us) (set ws a n))) where
  pub put_front : take (a + 1 + n) vs ≡ take a ws ++ (length us ∷ us)
  put_front =
      let b = take (a + 1) (set ws a n) in
      let more : b ≡ take a ws ++ (n ∷ []) = take_more_set ws a n (omega arith) in
      let size : length b ≡ a + 1 = length-take-le (a + 1) (set ws a n) (omega (arith, length-set ws a n)) in
      let all : length (b ++ us) ≡ a + 1 + n = omega (arith, length-append b us) in
      ap (take (a + 1 + n)) (is ∙ sym (append_assoc b us (drop (a + 1 + length us) (set ws a n))))
      ∙ take_at (b ++ us) (drop (a + 1 + length us) (set ws a n)) (a + 1 + n) all
      ∙ ap (λ l. l ++ us) more ∙ append_assoc (take a ws) (n ∷ []) us
      ∙ ap (λ k. take a ws ++ (k ∷ us)) (sym many)

  pub put_before : take a vs ≡ take a ws
  put_before =
      let front : take a (take (a + 1 + n) vs) ≡ take a vs = take-take a (a + 1 + n) vs (omega arith) in
      sym front ∙ ap (take a) put_front ∙ take_at (take a ws) (length us ∷ us) a (length-take-le a ws (omega arith))

pub same_manner : (s : State) {a b : Manner} {xs ys : List Manner} → a ≡ b → xs ≡ ys → with_manner s a xs ≡ with_manner s b ys
same_manner s {a} {b} {xs} {ys} e f = ap (λ x. with_manner s x xs) e ∙ ap (with_manner s b) f
