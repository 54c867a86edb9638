-- What the operators that draw and paint come to, case by case.
use Rattle.std.proofs.Common.{◌≡◌, ℕ, ◌+◌, true, false, ltb, List, [], ◌∷◌, ◌++◌, length, sym, refl, ap, ◌∙◌, arith}
use Rattle.std.proofs.lemmas.Bool.{cond-true, cond-false, ltb-true, ltb-false}
use Rattle.path.specs.Path.{Point, Ring, points, finished}
use Rattle.path.specs.Building.{rings_of, ring_of}
use Rattle.path.specs.declared.builder.Path.{Path}
use Rattle.machine.specs.Machine.{State, Value, Went, on, ends, with_path, with_stack, placed, near_enough, go_to, line_to}
use Rattle.machine.specs.Abstraction.{Past, state}
use Rattle.tokens.specs.declared.stage.Stage as stage
use Rattle.machine.specs.declared.stage.Clipping.{Ghosts}
use Rattle.machine.specs.declared.state.Machine.{Machine}

-- a machine beside another path
pub beside : {X : Type 0} {G : Ghosts X} {S : stage.Ghosts X} (m : Machine X G S) (p q : Path) (t : Past) (rs : List Ring) (r : Ring) → rings_of q ≡ rs → ring_of q ≡ r → state m q t ≡ with_path (state m p t) rs r
beside m p q t rs r e f = ap (λ x. with_path (state m p t) x (ring_of q)) e ∙ ap (with_path (state m p t) rs) f

pub go_to_far : (s : State) (a b : ℕ) (vs : List Value) → near_enough (placed s.manner a b) ≡ false → ends 3 s ≡ go_to s a b vs
unfolding go_to
go_to_far s a b vs far = sym (cond-false _ _ _ far)

pub go_to_full : (s : State) (a b : ℕ) (vs : List Value) → near_enough (placed s.manner a b) ≡ true → false ≡ ltb (points s.rings + length s.ring) 1024 → ends 7 s ≡ go_to s a b vs
unfolding go_to
go_to_full s a b vs near full = sym (cond-true _ _ _ near ∙ cond-false _ _ _ (sym full))

pub go_to_fits : (s : State) (a b : ℕ) (vs : List Value) (q : Point) → near_enough (placed s.manner a b) ≡ true → true ≡ ltb (points s.rings + length s.ring) 1024 → q ≡ placed s.manner a b →
    on (with_path (with_stack s vs) (finished s.rings s.ring) (q ∷ [])) ≡ go_to s a b vs
unfolding go_to
go_to_fits s a b vs q near room is =
    ap {B = Went} (λ x. on (with_path (with_stack s vs) (finished s.rings s.ring) (x ∷ []))) is ∙ sym (cond-true _ _ _ near ∙ cond-true _ _ _ (sym room))

pub line_to_none : (s : State) (a b : ℕ) (vs : List Value) (r : Ring) → false ≡ ltb 0 (length r) → ends 5 s ≡ line_to s a b vs r
unfolding line_to
line_to_none s a b vs [] e = refl
line_to_none s a b vs (q ∷ qs) e = absurd (omega (arith, ltb-false 0 (length (q ∷ qs)) (sym e)))

pub line_to_far : (s : State) (a b : ℕ) (vs : List Value) (r : Ring) → true ≡ ltb 0 (length r) → near_enough (placed s.manner a b) ≡ false → ends 3 s ≡ line_to s a b vs r
unfolding line_to
line_to_far s a b vs [] e far = absurd (omega (arith, ltb-true 0 0 (sym e)))
line_to_far s a b vs (q ∷ qs) e far = sym (cond-false _ _ _ far)

pub line_to_full : (s : State) (a b : ℕ) (vs : List Value) (r : Ring) → true ≡ ltb 0 (length r) → near_enough (placed s.manner a b) ≡ true → ltb (points s.rings + length s.ring) 1024 ≡ false → ends 7 s ≡ line_to s a b vs r
unfolding line_to
line_to_full s a b vs [] e near full = absurd (omega (arith, ltb-true 0 0 (sym e)))
line_to_full s a b vs (q ∷ qs) e near full = sym (cond-true _ _ _ near ∙ cond-false _ _ _ full)

pub line_to_fits : (s : State) (a b : ℕ) (vs : List Value) (r : Ring) (p : Point) → true ≡ ltb 0 (length r) → near_enough (placed s.manner a b) ≡ true → ltb (points s.rings + length s.ring) 1024 ≡ true → p ≡ placed s.manner a b →
    on (with_path (with_stack s vs) s.rings (r ++ (p ∷ []))) ≡ line_to s a b vs r
unfolding line_to
line_to_fits s a b vs [] p e near room is = absurd (omega (arith, ltb-true 0 0 (sym e)))
line_to_fits s a b vs (q ∷ qs) p e near room is =
    ap {B = Went} (λ x. on (with_path (with_stack s vs) s.rings ((q ∷ qs) ++ (x ∷ [])))) is ∙ sym (cond-true _ _ _ near ∙ cond-true _ _ _ room)
