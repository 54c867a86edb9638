use Rattle.std.proofs.Common.{◌≡◌, ℕ, ◌+◌, ◌*◌, ◌≤◌, List, ◌∷◌, ◌++◌, length, take, sym, refl, ap, ◌∙◌, subst, arith, length-set}
use Rattle.std.proofs.lemmas.Bool.{le-leb, lt-leb}
use Rattle.std.proofs.lemmas.List.{length-take-le}
use Rattle.stack.specs.Contents.{top_down}
use Rattle.path.specs.Path.{points, finished}
use Rattle.path.specs.Stored.{rings_in}
use Rattle.path.specs.Building.{rings_of, ring_of, points_of}
use Rattle.path.specs.declared.builder.Path.{Path}
use Rattle.machine.specs.Machine.{Manner, points_in_all}
use Rattle.machine.specs.Clips.{clips_in, weight_in, Weighs, Well}
use Rattle.machine.specs.declared.graphics.GraphicsState.{GraphicsState}
use Rattle.machine.proofs.ClipLaws.{whole_more, clips_more, weighs_more, points_finished}
use Rattle.machine.proofs.KeepLaws.{put_front, put_before, kept_clipped, saved_clipped}
use Rattle.machine.proofs.drawing.Drawing.append_clip.Goals as goal

-- what the clips in force and one more count for
total : (ws : List ℕ) (g : GraphicsState) (p : Path) → Weighs ws g.clips g.weight →
    1 + points (finished (rings_of p) (ring_of p)) + (points_in_all (clips_in (take g.clips ws)) + length (clips_in (take g.clips ws))) ≡ 1 + points_of p + g.weight
unfolding weight_in
total ws g p w = let q = points_finished (rings_of p) (ring_of p) in omega arith

pub returns-then-points-self-clause-err : goal.returns-then-points-self-clause-err
returns-then-points-self-clause-err g c =
    let d = c.args.self.now in
    let l = d.well.light in
    let few = c.points-points.ensures in
    let all = total d.clips.now d.graphics c.args.path.now d.well.weighs in
    (lt-leb _ 1024 (omega arith), refl)

-- a path behind the clips in force: the clips in force are then well, and these one more
module _ (ws vs us : List ℕ) (g : GraphicsState) (p : Path) (n : ℕ) (w : Well ws g) (few : g.weight + (1 + points_of p) ≤ 1024) (short : n ≤ 3 * points_of p) (fit : g.clips + 1 + n ≤ length vs)
    (path : rings_in us ≡ finished (rings_of p) (ring_of p)) (is : take (g.clips + 1 + n) vs ≡ take g.clips ws ++ (length us ∷ us)) where
  heavier : Weighs vs (g.clips + 1 + n) (g.weight + (1 + points_of p))
  heavier =
      let more = weighs_more ws vs us g.clips (g.clips + 1 + n) is w.front g.weight w.weighs in
      let q = ap points path ∙ points_finished (rings_of p) (ring_of p) in
      omega arith

  longer : Well vs (record { grey = g.grey; scale = g.scale; left = g.left; top = g.top; clips = g.clips + 1 + n; weight = g.weight + (1 + points_of p) })
  longer =
      let l = w.light in
      record { fits = fit; front = whole_more ws vs us g.clips (g.clips + 1 + n) is w.front; weighs = heavier; light = (omega arith, omega arith) }

  one_more : clips_in (take (g.clips + 1 + n) vs) ≡ finished (rings_of p) (ring_of p) ∷ clips_in (take g.clips ws)
  one_more = clips_more ws vs us g.clips (g.clips + 1 + n) is w.front ∙ ap (λ x. x ∷ clips_in (take g.clips ws)) path

pub invariant_of-self : goal.invariant_of-self
invariant_of-self g c =
    let d = c.args.self.now in
    let ws = d.clips.now in
    let us = c.front.result.now in
    let n = c.used-n.result in
    let a = d.graphics.clips in
    let l = d.well.light in
    let few = c.points-points.ensures in
    let used = c.used-n.ensures in
    let room = g.met.S.Clipping.has_room c.requires in
    let space = d.space in
    let within : a + 1 + n ≤ length ws = omega arith in
    let many = ap length c.front.ensures ∙ length-take-le n c.args.path.now.words.now used.len in
    let len = c.put_words.auto.words ∙ length-set ws a n in
    let is = put_front ws c.put_words.new.words us a n within many c.put_words.ensures in
    let before = put_before ws c.put_words.new.words us a n within many c.put_words.ensures in
    record {
      space = (let k = len in omega arith);
      well = subst (λ x. Well c.put_words.new.words (record { grey = d.graphics.grey; scale = d.graphics.scale; left = d.graphics.left; top = d.graphics.top; clips = a + 1 + n; weight = d.graphics.weight + (1 + x) })) (sym few)
          (longer ws c.put_words.new.words us d.graphics c.args.path.now n d.well (omega arith) used.short (omega arith) (ap rings_in c.front.ensures ∙ used.value) is);
      nested = kept_clipped ws c.put_words.new.words a (a + 1 + n) (top_down d.kept) (omega arith) before len d.nested;
    }

pub returns-clause-ok : goal.returns-clause-ok
returns-clause-ok g c =
    let d = c.args.self.now in
    let ws = d.clips.now in
    let us = c.front.result.now in
    let n = c.used-n.result in
    let a = d.graphics.clips in
    let l = d.well.light in
    let few = c.points-points.ensures in
    let used = c.used-n.ensures in
    let all = total ws d.graphics c.args.path.now d.well.weighs in
    let room = g.met.S.Clipping.has_room c.requires in
    let space = d.space in
    let within : a + 1 + n ≤ length ws = omega arith in
    let many = ap length c.front.ensures ∙ length-take-le n c.args.path.now.words.now used.len in
    let len = c.put_words.auto.words ∙ length-set ws a n in
    let is = put_front ws c.put_words.new.words us a n within many c.put_words.ensures in (
      le-leb _ 1024 (omega arith),
      ap {B = Manner} (λ cs. record { grey = d.graphics.grey; scale = d.graphics.scale; left = d.graphics.left; top = d.graphics.top; clips = cs })
          (one_more ws c.put_words.new.words us d.graphics c.args.path.now n d.well (omega arith) used.short (omega arith) (ap rings_in c.front.ensures ∙ used.value) is),
    )

pub returns-clause-saved : goal.returns-clause-saved
returns-clause-saved g c =
    let d = c.args.self.now in
    let ws = d.clips.now in
    let n = c.used-n.result in
    let a = d.graphics.clips in
    let l = d.well.light in
    let few = c.points-points.ensures in
    let used = c.used-n.ensures in
    let room = g.met.S.Clipping.has_room c.requires in
    let space = d.space in
    let within : a + 1 + n ≤ length ws = omega arith in
    let many = ap length c.front.ensures ∙ length-take-le n c.args.path.now.words.now used.len in
    let before = put_before ws c.put_words.new.words c.front.result.now a n within many c.put_words.ensures in
    saved_clipped ws c.put_words.new.words a (top_down d.kept) before d.nested
