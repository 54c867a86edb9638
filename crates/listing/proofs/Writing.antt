-- Text written piece by piece, and what it leaves in the bytes.
use Rattle.std.proofs.Common.{◌≡◌, ℕ, ◌+◌, ◌≤◌, min, List, [], ◌∷◌, ◌++◌, length, take, drop, sym, refl, ap, ◌∙◌, arith}
use Rattle.std.proofs.lemmas.List.{append_assoc, length-append, length_push, set_at, set_past}
use Rattle.listing.specs.Output.{Output, output, put_byte, put_text, Wrote}

pub wrote_none : (o : Output) → Wrote [] o o
unfolding put_text
wrote_none o = record { is = refl }

pub wrote_one : (b : ℕ) (o p : Output) → p ≡ put_byte b o → Wrote (b ∷ []) o p
unfolding put_text
wrote_one b o p e = record { is = e }

-- a text after a text is both, one after the other
pub put_append : (xs ys : List ℕ) (o : Output) → put_text (xs ++ ys) o ≡ put_text ys (put_text xs o)
unfolding put_text
put_append [] ys o = refl
put_append (x ∷ xs) ys o = put_append xs ys (put_byte x o)

pub then : {xs ys : List ℕ} {o p q : Output} → Wrote xs o p → Wrote ys p q → Wrote (xs ++ ys) o q
then {xs} {ys} {o} e f = record { is = f.is ∙ ap (put_text ys) e.is ∙ sym (put_append xs ys o) }

pub same_text : {xs ys : List ℕ} {o p : Output} → xs ≡ ys → Wrote xs o p → Wrote ys o p
same_text {o = o} e f = record { is = f.is ∙ ap (λ z. put_text z o) e }

-- a text laid over the front of other bytes
abbrev over : List ℕ → List ℕ → List ℕ
over [] bs = bs
over (x ∷ t) [] = []
over (x ∷ t) (b ∷ bs) = x ∷ over t bs

over_is : (t bs : List ℕ) → over t bs ≡ take (length bs) t ++ drop (length t) bs
over_is [] [] = refl
over_is [] (b ∷ bs) = refl
over_is (x ∷ t) [] = refl
over_is (x ∷ t) (b ∷ bs) = ap (λ z. x ∷ z) (over_is t bs)

abbrev most : ℕ
most = 18446744073709551615

-- past the end nothing is written
past_end : (t : List ℕ) (k : ℕ) (bs : List ℕ) → length bs ≤ k → k ≤ most → put_text t (output k bs) ≡ output (min (k + length t) most) bs
unfolding put_text
past_end [] k bs le lt = ap (λ n. output n bs) (omega arith)
past_end (x ∷ t) k bs le lt =
    ap (λ z. put_text t (output (min (k + 1) most) z)) (set_past bs k x le)
    ∙ past_end t (min (k + 1) most) bs (omega arith) (omega arith)
    ∙ ap (λ n. output n bs) (omega arith)

within : (t front bs : List ℕ) (k : ℕ) → length front ≡ k → k + length bs ≤ most → put_text t (output k (front ++ bs)) ≡ output (min (k + length t) most) (front ++ over t bs)
unfolding put_text
within [] front bs k e le = ap (λ n. output n (front ++ bs)) (omega arith)
within (x ∷ t) front [] k e le = past_end (x ∷ t) k (front ++ []) (omega (arith, length-append front [])) (omega arith)
within (x ∷ t) front (b ∷ bs) k e le =
    ap (λ z. put_text t (output (min (k + 1) most) z)) (set_at front b bs x k e ∙ sym (append_assoc front (x ∷ []) bs))
    ∙ ap (λ n. put_text t (output n ((front ++ (x ∷ [])) ++ bs))) (omega arith)
    ∙ within t (front ++ (x ∷ [])) bs (k + 1) (omega (arith, length_push front x)) (omega arith)
    ∙ ap (λ z. output (min (k + 1 + length t) most) z) (append_assoc front (x ∷ []) (over t bs))
    ∙ ap (λ n. output n (front ++ (x ∷ over t bs))) (omega arith)

-- what a text that is written from the front on leaves
pub written : (t bs : List ℕ) → length bs ≤ most → put_text t (output 0 bs) ≡ output (min (length t) most) (take (length bs) t ++ drop (length t) bs)
written t bs le = within t [] bs 0 refl (omega arith) ∙ ap (λ n. output n (over t bs)) (omega arith) ∙ ap (output (min (length t) most)) (over_is t bs)
