use Rattle.std.proofs.Common.{◌≡◌, ℕ, ◌-◌, ◌%◌, ◌≤◌, false, eqb, List, length, get_or, take, drop, sym, refl, ap, ◌∙◌, arith}
use Rattle.std.proofs.lemmas.Bool.{ne_eqb}
use Rattle.std.proofs.lemmas.Slice.{between_to_end}
use Rattle.tokens.specs.Token.{number, does, name, quoted}
use Rattle.tokens.specs.Stored.{Head, plain, nested, operator_of, by_kind, operator_head, head_of}
use Rattle.tokens.proofs.Decoding.{head_short, head_long, next_over, next_is}
use Rattle.tokens.proofs.next_token.Goals as goal

-- the words after the first two
after : (ws : List ℕ) → 2 ≤ length ws → take (length ws - 2) (drop 2 ws) ≡ drop 2 ws
after ws h = between_to_end ws 2 (length ws) (omega arith)

-- a token of two words
plain_is : (f : List ℕ → Head) (ws : List ℕ) (kind : ℕ) → 2 ≤ length ws → get_or ws 0 0 ≡ kind → f (drop 2 ws) ≡ by_kind kind (get_or ws 1 0) (drop 2 ws) → f (take (length ws - 2) (drop 2 ws)) ≡ head_of ws
plain_is f ws kind h is e = ap f (after ws h) ∙ e ∙ head_long ws kind h is

pub returns-then-rest-lt2 : goal.returns-then-rest-lt2
returns-then-rest-lt2 c = next_over _ (sym (head_short c.args.rest.now c.if-rest-lt2.true))

pub returns-in_default-try_from : goal.returns-in_default-try_from
returns-in_default-try_from c = let ws = c.args.rest.now in next_over ws (sym (ap (λ o. operator_head o (drop 2 ws)) c.in_default-try_from.ensures.0) ∙ head_long ws 1 c.if-rest-lt2.false c.in-1.is)

pub returns-in-0 : goal.returns-in-0
returns-in-0 c = let ws = c.args.rest.now in next_is _ _ ws (plain_is (plain (number (get_or ws 1 0 % 2147483648))) ws 0 c.if-rest-lt2.false c.in-0.is refl)

pub returns-in-Ok : goal.returns-in-Ok
returns-in-Ok c = let ws = c.args.rest.now in next_is _ _ ws (plain_is (plain (does (operator_of c.in-Ok.op))) ws 1 c.if-rest-lt2.false c.in-1.is (sym (ap (λ o. operator_head o (drop 2 ws)) c.in-Ok.ensures)))

pub returns-in-2 : goal.returns-in-2
returns-in-2 c = let ws = c.args.rest.now in next_is _ _ ws (plain_is (plain (name (get_or ws 1 0 % 256))) ws 2 c.if-rest-lt2.false c.in-2.is refl)

pub returns-in-3 : goal.returns-in-3
returns-in-3 c = let ws = c.args.rest.now in next_is _ _ ws (plain_is (plain (quoted (get_or ws 1 0 % 256))) ws 3 c.if-rest-lt2.false c.in-3.is refl)

-- a body and what comes after it
nested_is : (bs rs ws : List ℕ) → 2 ≤ length ws → get_or ws 0 0 ≡ 4 → bs ≡ take (get_or ws 1 0) (take (length ws - 2) (drop 2 ws)) → rs ≡ drop (get_or ws 1 0) (take (length ws - 2) (drop 2 ws)) → nested bs rs ≡ head_of ws
nested_is bs rs ws h is b r =
    let n = get_or ws 1 0 in
    ap (λ x. nested x rs) b ∙ ap (nested (take n (take (length ws - 2) (drop 2 ws)))) r ∙ ap (λ x. nested (take n x) (drop n x)) (after ws h) ∙ head_long ws 4 h is

pub returns-in-4 : goal.returns-in-4
returns-in-4 c =
    let ws = c.args.rest.now in
    next_is _ _ ws (nested_is _ _ ws c.if-rest-lt2.false c.in-4.is c.body_of.ensures.body c.body_of.ensures.rest)

pub returns-in_default : goal.returns-in_default
returns-in_default c =
    let ws = c.args.rest.now in
    let k = get_or ws 0 0 in
    let a : eqb k 0 ≡ false = ne_eqb _ _ (λ h. omega arith) in
    let b : eqb k 1 ≡ false = ne_eqb _ _ (λ h. omega arith) in
    let d : eqb k 2 ≡ false = ne_eqb _ _ (λ h. omega arith) in
    let e : eqb k 3 ≡ false = ne_eqb _ _ (λ h. omega arith) in
    let f : eqb k 4 ≡ false = ne_eqb _ _ (λ h. omega arith) in
    next_over ws (simp (a, b, d, e, f) at (head_long ws k c.if-rest-lt2.false refl))
