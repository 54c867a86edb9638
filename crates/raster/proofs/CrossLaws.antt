-- Parities of crossings, edge by edge, ring by ring and path by path.
use Rattle.std.proofs.Common.{◌≡◌, ℕ, suc, ◌*◌, ◌/◌, ◌<◌, ◌≤◌, max, Bool, true, false, ◌&&◌, eqb, ltb, leb, List, [], ◌∷◌, get_or, sym, refl, ap, ◌∙◌, inl, inr, arith}
use mathlib.Core.Bool.{xor}
use Rattle.std.proofs.lemmas.Bool.{cases_lt}
use Rattle.std.proofs.lemmas.Bool.Decides.{nat_tests}
use Rattle.bits.specs.Row.{odd_below, bit_at, Within}
use Rattle.bits.proofs.RowLaws.{odd_toggled, bit_unset}
use Rattle.path.specs.Path.{Point, Ring}
use Rattle.raster.specs.Coverage.{differ, crosses, along, in_ring, in_path, in_all}

pub xor_is : (a b : Bool) → xor a b ≡ differ a b
unfolding xor
xor_is true true = refl
xor_is true false = refl
xor_is false true = refl
xor_is false false = refl

-- the dots at and past a place change
pub odd_from : (f g : ℕ → Bool) (at x : ℕ) → ((k : ℕ) → g k ≡ xor (eqb k at) (f k)) → odd_below g (suc x) ≡ differ (leb at x) (odd_below f (suc x))
odd_from f g at x h =
    let e : ltb at (suc x) ≡ leb at x = grind (arith, nat_tests) in
    odd_toggled f g at (suc x) h ∙ ap (λ b. xor b (odd_below f (suc x))) e ∙ xor_is (leb at x) (odd_below f (suc x))

-- from `left` on it is as well to begin there
pub leb-past : (dot left at x : ℕ) → left ≤ x → at ≡ max dot left → leb at x ≡ leb dot x
leb-past dot left at x le e = grind (arith, nat_tests)

pub differ_swap : (a b c : Bool) → differ a (differ b c) ≡ differ (differ b a) c
differ_swap true true true = refl
differ_swap true true false = refl
differ_swap true false true = refl
differ_swap true false false = refl
differ_swap false true true = refl
differ_swap false true false = refl
differ_swap false false true = refl
differ_swap false false false = refl

pub differ_false : (b : Bool) → differ b false ≡ b
differ_false true = refl
differ_false false = refl

-- one edge more of a ring: what is left after it, and the parity with it, give what was left before
pub along_step : (first next last : Point) (ps rest : Ring) (a b : ℕ) (before after : Bool) → rest ≡ next ∷ ps → after ≡ differ (crosses last next a b) before →
    differ (along first ps next a b) after ≡ differ (along first rest last a b) before
unfolding along
along_step first next last ps rest a b before after e h =
    ap (differ (along first ps next a b)) h ∙ differ_swap (along first ps next a b) (crosses last next a b) before
    ∙ sym (ap (λ r. differ (along first r last a b) before) e)

pub along_end : (first last : Point) (rest : Ring) (a b : ℕ) → rest ≡ [] → crosses last first a b ≡ along first rest last a b
unfolding along
along_end first last rest a b e = sym (ap (λ r. along first r last a b) e)

pub ring_begin : (first : Point) (ps ring : Ring) (a b : ℕ) → ring ≡ first ∷ ps → along first ps first a b ≡ in_ring ring a b
unfolding in_ring
ring_begin first ps ring a b e = sym (ap (λ r. in_ring r a b) e)

pub ring_none : (ring : Ring) (a b : ℕ) → ring ≡ [] → in_ring ring a b ≡ false
unfolding in_ring
ring_none ring a b e = ap (λ r. in_ring r a b) e

-- one ring more of a path
pub path_step : (ring : Ring) (rs rest : List Ring) (a b : ℕ) (before after : Bool) → rest ≡ ring ∷ rs → after ≡ differ (in_ring ring a b) before →
    differ (in_path rs a b) after ≡ differ (in_path rest a b) before
unfolding in_path
path_step ring rs rest a b before after e h =
    ap (differ (in_path rs a b)) h ∙ differ_swap (in_path rs a b) (in_ring ring a b) before ∙ sym (ap (λ r. differ (in_path r a b) before) e)

pub path_none : (rs : List Ring) (a b : ℕ) → rs ≡ [] → in_path rs a b ≡ false
unfolding in_path
path_none rs a b e = ap (λ r. in_path r a b) e

-- one clip more
pub all_step : (clip : List Ring) (cs rest : List (List Ring)) (a b : ℕ) (before after : Bool) → rest ≡ clip ∷ cs → after ≡ (before && in_path clip a b) →
    (after && in_all cs a b) ≡ (before && in_all rest a b)
unfolding in_all
all_step clip cs rest a b before after e h =
    ap (λ t. t && in_all cs a b) h ∙ grouped before (in_path clip a b) (in_all cs a b) ∙ sym (ap (λ r. before && in_all r a b) e)
  where
    grouped : (s t u : Bool) → ((s && t) && u) ≡ (s && (t && u))
    grouped true t u = refl
    grouped false t u = refl

pub all_none : (cs : List (List Ring)) (a b : ℕ) (before : Bool) → cs ≡ [] → before ≡ (before && in_all cs a b)
unfolding in_all
all_none cs a b true e = sym (ap (λ r. in_all r a b) e)
all_none cs a b false e = refl

-- where a row has no word set it does not matter what it is cut by
pub clipped_dot : (ws mask : List ℕ) (low high x : ℕ) (inside : Bool) → Within ws low high → (64 * low ≤ x → x < 64 * high → bit_at mask x ≡ inside) → (bit_at ws x && bit_at mask x) ≡ (bit_at ws x && inside)
clipped_dot ws mask low high x inside w h =
    elim (cases_lt x (64 * low)) [
      | inl before ↦ unset (w.1 (x / 64) (omega arith))
      | inr from ↦ elim (cases_lt x (64 * high)) [ inl within ↦ ap (λ b. bit_at ws x && b) (h from within) | inr past ↦ unset (w.2 (x / 64) (omega arith)) ]
    ]
  where
    unset : get_or ws (x / 64) 0 ≡ 0 → (bit_at ws x && bit_at mask x) ≡ (bit_at ws x && inside)
    unset z = let e = bit_unset ws x z in ap (λ b. b && bit_at mask x) e ∙ sym (ap (λ b. b && inside) e)
