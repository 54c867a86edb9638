-- Clips in words, over plain lists: what one more clip leaves, and that a write behind some words leaves them.
use Rattle.std.proofs.Common.{◌≡◌, ℕ, ◌+◌, ◌*◌, List, [], ◌∷◌, ◌++◌, map, reverse, length, take, drop, sym, refl, ap, ◌∙◌, arith}
use Rattle.std.proofs.lemmas.List.{append-nil, append_assoc, reverse-append, map-append, take_at, drop_at}
use Rattle.path.specs.Path.{Ring, points, finished}
use Rattle.path.specs.Stored.{pieces, rings_in, paths_in}
use Rattle.path.proofs.StoredLaws.{pieces_none, pieces_more, total_push, finished_none, finished_some}
use Rattle.machine.specs.Machine.{points_in_all}
use Rattle.machine.specs.Clips.{clips_in, clip_words, weight_in, Whole, Weighs}

-- clips that were written are read back, whatever follows them
pieces_written : (cs : List (List ℕ)) (vs : List ℕ) → pieces 1 (clip_words cs ++ vs) ≡ cs ++ pieces 1 vs
unfolding clip_words
pieces_written [] vs = refl
pieces_written (c ∷ cs) vs =
    let k : 1 * length c ≡ length c = omega arith in
    let parts = append_assoc c (clip_words cs) vs in
    pieces_more 1 (length c) ((c ++ clip_words cs) ++ vs)
    ∙ ap (λ n. take n ((c ++ clip_words cs) ++ vs) ∷ pieces 1 (drop n ((c ++ clip_words cs) ++ vs))) k
    ∙ ap (λ l. take (length c) l ∷ pieces 1 (drop (length c) l)) parts
    ∙ ap (λ x. x ∷ pieces 1 (drop (length c) (c ++ (clip_words cs ++ vs)))) (take_at c (clip_words cs ++ vs) (length c) refl)
    ∙ ap (λ l. c ∷ pieces 1 l) (drop_at c (clip_words cs ++ vs) (length c) refl)
    ∙ ap (λ l. c ∷ l) (pieces_written cs vs)

written_more : (cs : List (List ℕ)) (c : List ℕ) → clip_words (cs ++ (c ∷ [])) ≡ clip_words cs ++ (length c ∷ c)
unfolding clip_words
written_more [] c = ap (λ l. length c ∷ l) (append-nil c)
written_more (d ∷ cs) c = ap (λ l. length d ∷ (d ++ l)) (written_more cs c) ∙ ap (λ l. length d ∷ l) (sym (append_assoc d (clip_words cs) (length c ∷ c)))

pieces_one_more : (ws c : List ℕ) → clip_words (pieces 1 ws) ≡ ws → pieces 1 (ws ++ (length c ∷ c)) ≡ pieces 1 ws ++ (c ∷ [])
pieces_one_more ws c whole =
    let cs = pieces 1 ws in
    ap (λ l. pieces 1 (l ++ (length c ∷ c))) (sym whole)
    ∙ ap (pieces 1) (sym (written_more cs c) ∙ sym (append-nil (clip_words (cs ++ (c ∷ [])))))
    ∙ pieces_written (cs ++ (c ∷ [])) [] ∙ ap (λ l. (cs ++ (c ∷ [])) ++ l) (pieces_none 1) ∙ append-nil (cs ++ (c ∷ []))

whole_one_more : (ws c : List ℕ) → clip_words (pieces 1 ws) ≡ ws → clip_words (pieces 1 (ws ++ (length c ∷ c))) ≡ ws ++ (length c ∷ c)
whole_one_more ws c whole = ap clip_words (pieces_one_more ws c whole) ∙ written_more (pieces 1 ws) c ∙ ap (λ l. l ++ (length c ∷ c)) whole

clips_one_more : (ws c : List ℕ) → clip_words (pieces 1 ws) ≡ ws → clips_in (ws ++ (length c ∷ c)) ≡ rings_in c ∷ clips_in ws
unfolding clips_in paths_in
clips_one_more ws c whole =
    ap (λ l. reverse (map rings_in l)) (pieces_one_more ws c whole)
    ∙ ap reverse (map-append rings_in (pieces 1 ws) (c ∷ []))
    ∙ reverse-append (map rings_in (pieces 1 ws)) (rings_in c ∷ [])

weight_one_more : (ws c : List ℕ) → clip_words (pieces 1 ws) ≡ ws → weight_in (ws ++ (length c ∷ c)) ≡ 1 + points (rings_in c) + weight_in ws
unfolding weight_in points_in_all
weight_one_more ws c whole = ap (λ cs. points_in_all cs + length cs) (clips_one_more ws c whole) ∙ omega arith

-- no clips
pub whole_none : clip_words (pieces 1 []) ≡ []
unfolding clip_words
whole_none = ap clip_words (pieces_none 1)

pub weight_none : 0 ≡ weight_in []
unfolding weight_in clips_in paths_in points_in_all
weight_none = sym (ap (λ l. points_in_all (reverse (map rings_in l)) + length (reverse (map rings_in l))) (pieces_none 1))

-- the first words and one clip behind them
module _ (ws vs c : List ℕ) (n m : ℕ) (is : take m vs ≡ take n ws ++ (length c ∷ c)) (whole : Whole ws n) where
  pub whole_more : Whole vs m
  whole_more = ap (λ l. clip_words (pieces 1 l)) is ∙ whole_one_more (take n ws) c whole ∙ sym is

  pub clips_more : clips_in (take m vs) ≡ rings_in c ∷ clips_in (take n ws)
  clips_more = ap clips_in is ∙ clips_one_more (take n ws) c whole

  pub weighs_more : (weight : ℕ) → Weighs ws n weight → Weighs vs m (1 + points (rings_in c) + weight)
  weighs_more weight old = ap (λ x. 1 + points (rings_in c) + x) old ∙ sym (ap weight_in is ∙ weight_one_more (take n ws) c whole)

-- a path has the points of its finished subpaths and of the open one
pub points_finished : (rs : List Ring) (r : Ring) → points (finished rs r) ≡ points rs + length r
points_finished rs [] = ap points (finished_none rs) ∙ omega arith
points_finished rs (p ∷ ps) = ap points (finished_some rs (p ∷ ps) (omega arith)) ∙ total_push rs (p ∷ ps)

pub no_clips : clips_in [] ≡ []
unfolding clips_in paths_in
no_clips = ap (λ l. reverse (map rings_in l)) (pieces_none 1)
