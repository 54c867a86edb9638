use Rattle.std.proofs.Common.{◌≡◌, ℕ, ◌+◌, ◌<◌, ◌≤◌, List, [], ◌∷◌, ◌++◌, map, length, get_or, take, vec_items, sym, ap, ◌∙◌, arith}
use Rattle.std.proofs.lemmas.List.{append_assoc, map_more, take_all}
use Rattle.page_text.specs.Marks.{mark_of, marks}
use Rattle.page_text.proofs.row.push_row.Goals as goal

one_more : (start was now row : List ℕ) (i m : ℕ) → i < length row → was ≡ start ++ map mark_of (take i row) → m ≡ mark_of (get_or row i 0) → now ≡ was ++ (m ∷ []) → now ≡ start ++ map mark_of (take (i + 1) row)
one_more start was now row i m lt before mark pushed =
    pushed
    ∙ ap (λ z. z ++ (m ∷ [])) before
    ∙ append_assoc start (map mark_of (take i row)) (m ∷ [])
    ∙ ap (λ z. start ++ z) (ap (λ z. map mark_of (take i row) ++ (z ∷ [])) mark ∙ sym (map_more mark_of row i 0 lt))

ended : (start was now row : List ℕ) (i : ℕ) → length row ≤ i → was ≡ start ++ map mark_of (take i row) → now ≡ was ++ (10 ∷ []) → now ≡ start ++ marks row
ended start was now row i all before pushed = pushed ∙ ap (λ z. z ++ (10 ∷ [])) (before ∙ ap (λ z. start ++ map mark_of z) (take_all i row all)) ∙ append_assoc start (map mark_of row) (10 ∷ [])

pub loop-grey-preserved : goal.loop-grey-preserved
loop-grey-preserved c =
    one_more (vec_items c.args.text.now) (vec_items c.loop-grey.text) _ c.args.row.now c.loop-grey.grey-index c.mark.result (omega arith) c.loop-grey.invariant c.mark.ensures
    c.in_ok-push.ensures.items

pub returns : goal.returns
returns c =
    ended (vec_items c.args.text.now) (vec_items c.loop-grey.text) _ c.args.row.now c.loop-grey.grey-index (omega arith) c.loop-grey.invariant c.in_ok-push-2.ensures.items
