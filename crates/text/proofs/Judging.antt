-- What a text is answered with, from what its three checks find.
use Rattle.std.proofs.Common.{◌≡◌, ℕ, Bool, true, false, cond, ltb, List, [], length, Ok, Err, Result, sym, refl, ap, ◌∙◌, subst, arith}
use Rattle.text.specs.declared.refusal.Refusal.{Refusal}
use Rattle.text.specs.declared.refusal.Refusal.TheVariants.{Unreadable, TooLarge}
use Rattle.tokens.specs.Token.{Tokens, size}
use Rattle.lexer.specs.Reading.{Fault, fine, at, Read, refused, tokens, unless, cannot_read, above_limit, build, read}
use Rattle.lexer.specs.Lexing.{from}
use Rattle.text.specs.Refusing.{passed_with, Checked}
use Rattle.lexer.proofs.Counting.{counted}
use Rattle.lexer.proofs.Ranges.{tests_passed}

-- reading by what the checks found
unfoldable pub judge : Fault → Bool → Fault → Tokens → Read
judge f short g ts = unless f 1 (cond short (unless g 2 (tokens ts)) (refused 2 0))

judged : (can : ℕ → Bool) (s : List ℕ) → read can s ≡ judge (cannot_read (from s 0) (length s) 0) (ltb (length s) 16777216) (above_limit (from s 0) can 0 0 []) (build (from s 0) [] [] [])
unfolding judge
judged can s = refl

pub unreadable : (p : ℕ) (short : Bool) (g : Fault) (ts : Tokens) → Checked (Err (Unreadable p)) (judge (at p) short g ts)
unfolding judge unless
unreadable p short g ts = (refl, refl)

pub too_long : (g : Fault) (ts : Tokens) → Checked (Err (TooLarge 0)) (judge fine false g ts)
unfolding judge unless
too_long g ts = (refl, refl)

pub limited : (g : Fault) (n : ℕ) (ts : Tokens) → n ≡ size ts → Checked (passed_with TooLarge n g) (judge fine true g ts)
unfolding judge unless
limited fine n ts h = h
limited (at p) n ts h = (refl, refl)

-- a check that handed on its value found no fault, and one that refused found it there
pub found_none : {A : Type 0} (k : ℕ → Refusal) (a b : A) (f : Fault) → Ok a ≡ passed_with k b f → f ≡ fine
found_none k a b fine e = refl
found_none k a b (at p) e = let z : ◌≡◌ {A = ℕ} 0 1 = cc in absurd (omega arith)

pub found_there : {A : Type 0} (b : A) (r : Refusal) (f : Fault) → Err r ≡ passed_with Unreadable b f → (p : ℕ) × (r ≡ Unreadable p) × (f ≡ at p)
found_there b r fine e = let z : ◌≡◌ {A = ℕ} 0 1 = cc in absurd (omega arith)
found_there b r (at p) e = (p, cc, refl)

pub judged_by : (can : ℕ → Bool) (s : List ℕ) (r : Result ℕ Refusal) (f : Fault) (short : Bool) → cannot_read (from s 0) (length s) 0 ≡ f → ltb (length s) 16777216 ≡ short → Checked r (judge f short (above_limit (from s 0) can 0 0 []) (build (from s 0) [] [] [])) → Checked r (read can s)
judged_by can s r f short e l h =
    let above = above_limit (from s 0) can 0 0 [] in
    let ts = build (from s 0) [] [] [] in
    subst (Checked r) (sym (judged can s)) (subst (λ z. Checked r (judge z (ltb (length s) 16777216) above ts)) (sym e) (subst (λ z. Checked r (judge f z above ts)) (sym l) h))

-- whether a test let a text through
pub left_out : (b : Bool) (e : Refusal) → ◌≡◌ {A = Result (Unit {0}) Refusal} (Err e) (cond b (Ok tt) (Err (TooLarge 0))) → (b ≡ false) × (e ≡ TooLarge 0)
left_out true r e = let z : ◌≡◌ {A = ℕ} 0 1 = cc in absurd (omega arith)
left_out false r e = (refl, cc)

pub let_in : (b : Bool) → ◌≡◌ {A = Result (Unit {0}) Refusal} (Ok tt) (cond b (Ok tt) (Err (TooLarge 0))) → b ≡ true
let_in true e = refl
let_in false e = let z : ◌≡◌ {A = ℕ} 0 1 = cc in absurd (omega arith)

-- a text that was accepted passed every check, and its tokens are as many as its pieces
pub record Accepted (can : ℕ → Bool) (s : List ℕ) (n : ℕ) : Type 0 where
  pub readable : cannot_read (from s 0) (length s) 0 ≡ fine
  pub within : above_limit (from s 0) can 0 0 [] ≡ fine
  pub is : read can s ≡ tokens (build (from s 0) [] [] [])
  pub many : n ≡ length (from s 0)

with_tokens : (n : ℕ) (r : Read) → Checked (Ok n) r → (ts : Tokens) × (r ≡ tokens ts) × (n ≡ size ts)
with_tokens n (refused k p) h = absurd h
with_tokens n (tokens ts) h = (ts, refl, h)

pub accepted : (can : ℕ → Bool) (s : List ℕ) (n : ℕ) → Checked (Ok n) (read can s) → Accepted can s n
accepted can s n h =
    let found = with_tokens n (read can s) h in
    let t = tests_passed (cannot_read (from s 0) (length s) 0) (above_limit (from s 0) can 0 0 []) (ltb (length s) 16777216) (build (from s 0) [] [] []) found.0 found.1 in
    record { readable = t.0; within = t.2; is = found.1 ∙ ap tokens (sym t.3); many = found.2 ∙ ap size (sym t.3) ∙ counted (from s 0) [] (length s) t.0 }
