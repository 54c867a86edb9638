-- Lists of small numbers.
use Rattle.std.proofs.Common.{◌≡◌, ℕ, zero, suc, ◌*◌, ◌<◌, ◌≤◌, Bool, true, ltb, List, [], ◌∷◌, ◌++◌, length, get_or, drop, replicate, refl, arith, length-append}
use Rattle.std.proofs.lemmas.Bool.{lt-ltb, and_parts, and_from}
use Rattle.tokens.specs.Token.{Token, number, does, name, quoted, body, Tokens, none, more, number_of, size, size_of, InRange, AllInRange}
use Rattle.tokens.specs.Stored.{stored, all_stored}
use Rattle.run.proofs.Numbers.{operator_small}
use Rattle.session.specs.Promise.{all_below}

pub below_append : (k : ℕ) (xs ys : List ℕ) → all_below k xs ≡ true → all_below k ys ≡ true → all_below k (xs ++ ys) ≡ true
unfolding all_below
below_append k [] ys h i = i
below_append k (x ∷ xs) ys h i = let p = and_parts (ltb x k) (all_below k xs) h in and_from _ _ p.0 (below_append k xs ys p.1 i)

pub below_drop : (k n : ℕ) (xs : List ℕ) → all_below k xs ≡ true → all_below k (drop n xs) ≡ true
unfolding all_below
below_drop k zero xs h = h
below_drop k (suc n) [] h = refl
below_drop k (suc n) (x ∷ xs) h = below_drop k n xs (and_parts (ltb x k) (all_below k xs) h).1

pub below_replicate : (k n v : ℕ) → v < k → all_below k (replicate n v) ≡ true
unfolding all_below
below_replicate k zero v l = refl
below_replicate k (suc n) v l = and_from _ _ (lt-ltb v k l) (below_replicate k n v l)

pub below_from : (k : ℕ) (xs : List ℕ) → ((i : ℕ) → get_or xs i 0 < k) → all_below k xs ≡ true
unfolding all_below
below_from k [] f = refl
below_from k (x ∷ xs) f = and_from _ _ (lt-ltb x k (f 0)) (below_from k xs (λ i. f (suc i)))

abbrev word : ℕ
word = 18446744073709551616

two_below : (a b : ℕ) → a < word → b < word → all_below word (a ∷ (b ∷ [])) ≡ true
unfolding all_below
two_below a b h k = and_from _ _ (lt-ltb a word h) (and_from _ _ (lt-ltb b word k) refl)

-- two words for each token, none for a closing brace
mutual
  unfolding stored all_stored

  pub stored_length : (ts : Tokens) → length (all_stored ts) ≤ 2 * size ts
  stored_length none = omega arith
  stored_length (more t ts) = let a = token_length t in let b = stored_length ts in let l = length-append (stored t) (all_stored ts) in omega arith

  token_length : (t : Token) → length (stored t) ≤ 2 * size_of t
  token_length (number n) = omega arith
  token_length (does k) = omega arith
  token_length (name k) = omega arith
  token_length (quoted k) = omega arith
  token_length (body ts) = let a = stored_length ts in omega arith

-- stored tokens are words of 64 bits where there are fewer than 2 ^ 64 of them
mutual
  unfolding all_below stored all_stored

  pub stored_below : (can : ℕ → Bool) (ts : Tokens) → AllInRange can ts → length (all_stored ts) < word → all_below word (all_stored ts) ≡ true
  stored_below can none r l = refl
  stored_below can (more t ts) r l =
      let n = length-append (stored t) (all_stored ts) in
      below_append word (stored t) (all_stored ts) (token_below can t r.0 (omega arith)) (stored_below can ts r.1 (omega arith))

  token_below : (can : ℕ → Bool) (t : Token) → InRange can t → length (stored t) < word → all_below word (stored t) ≡ true
  token_below can (number n) r l = two_below 0 n (omega arith) (omega arith)
  token_below can (does k) r l = two_below 1 (number_of k) (omega arith) (let h = operator_small k in omega arith)
  token_below can (name k) r l = two_below 2 k (omega arith) (omega arith)
  token_below can (quoted k) r l = two_below 3 k (omega arith) (omega arith)
  token_below can (body ts) r l = below_append word (4 ∷ (length (all_stored ts) ∷ [])) (all_stored ts) (two_below 4 (length (all_stored ts)) (omega arith) (omega arith)) (stored_below can ts r (omega arith))
