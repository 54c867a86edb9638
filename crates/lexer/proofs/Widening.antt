-- What is within the limits of a stage is within those of a wider one.
use Rattle.std.proofs.Common.{◌≡◌, ℕ, suc, ◌-◌, Bool, true, cond, ◌&&◌, ltb, List, [], ◌∷◌, length, refl, ap, ◌∙◌}
use Rattle.std.proofs.lemmas.Bool.{and_parts, cond-true}
use Rattle.tokens.specs.Token.{Tokens}
use Rattle.tokens.specs.Stage.{thin, whole}
use Rattle.lexer.specs.Reading.{Piece, opens, closes, digits, word, slashed, wrong, between, pieces, Fault, fine, at, cannot_read, above_limit, word_limit, Found, operator, no_operator, as_operator, words_after, with_word, build, refused, tokens, unless}
use Rattle.lexer.specs.Laws.{WiderReads, FirstStageKept}
use Rattle.lexer.proofs.Faults.{passed}
use Rattle.lexer.proofs.Ranges.{tests_passed}

module _ (can also : ℕ → Bool) (wider : (k : ℕ) → can k ≡ true → also k ≡ true) where
  wider_word : (f : Found) (ws : List (List ℕ)) (w : List ℕ) → word_limit f can ws w ≡ true → word_limit f also ws w ≡ true
  unfolding word_limit
  wider_word (operator o) ws w e = wider _ e
  wider_word no_operator ws w e = e

  -- a test that holds, and what follows it
  goes : (b : Bool) (f : Fault) (n : ℕ) → b ≡ true → f ≡ fine → cond b f (at n) ≡ fine
  goes b f n e h = cond-true _ _ _ e ∙ h

  wider_limit : (ps : List Piece) (count deep : ℕ) (ws : List (List ℕ)) → above_limit ps can count deep ws ≡ fine → above_limit ps also count deep ws ≡ fine
  unfolding above_limit
  wider_limit [] count deep ws e = refl
  wider_limit (wrong n ∷ ps) count deep ws e = wider_limit ps count deep ws e
  wider_limit (opens n ∷ ps) count deep ws e = let p = passed _ _ n e in goes _ _ n p.0 (wider_limit ps (suc count) (suc deep) ws p.1)
  wider_limit (closes n ∷ ps) count deep ws e = let p = passed _ _ n e in goes _ _ n p.0 (wider_limit ps (suc count) (deep - 1) ws p.1)
  wider_limit (digits n v ∷ ps) count deep ws e = let p = passed _ _ n e in goes _ _ n p.0 (wider_limit ps (suc count) deep ws p.1)
  wider_limit (slashed n w ∷ ps) count deep ws e = let p = passed _ _ n e in goes _ _ n p.0 (wider_limit ps (suc count) deep (with_word ws w) p.1)
  wider_limit (word n w ∷ ps) count deep ws e =
      let p = passed _ _ n e in
      let q = and_parts (ltb count 65536) (word_limit (as_operator w) can ws w) p.0 in
      goes _ _ n (ap (λ b. b && word_limit (as_operator w) also ws w) q.0 ∙ wider_word (as_operator w) ws w q.1) (wider_limit ps (suc count) deep (words_after (as_operator w) ws w) p.1)

passing : (f g : Fault) (b : Bool) (ts us : Tokens) → f ≡ fine → b ≡ true → g ≡ fine → ts ≡ us → unless f 1 (cond b (unless g 2 (tokens ts)) (refused 2 0)) ≡ tokens us
unfolding unless
passing f g b ts us ef eb eg e = ap (λ x. unless x 1 (cond b (unless g 2 (tokens ts)) (refused 2 0))) ef ∙ cond-true _ _ _ eb ∙ ap (λ x. unless x 2 (tokens ts)) eg ∙ ap tokens e

pub wider_reads : WiderReads
wider_reads can also wider bs ts e =
    let ps = pieces bs 0 between in
    let p = tests_passed (cannot_read ps (length bs) 0) (above_limit ps can 0 0 []) (ltb (length bs) 16777216) (build ps [] [] []) ts e in
    passing (cannot_read ps (length bs) 0) (above_limit ps also 0 0 []) (ltb (length bs) 16777216) (build ps [] [] []) ts p.0 p.1 (wider_limit can also wider ps 0 0 [] p.2) p.3

pub first_stage_kept : FirstStageKept
first_stage_kept = wider_reads thin whole (λ k e. refl)
