use Rattle.std.proofs.Common.{◌≡◌, ℕ, length, get_or, replicate, sym, refl, ap, ◌∙◌, arith, w8, Fits}
use Rattle.tokens.specs.Stage.{whole}
use Rattle.session.specs.Promise.{ready}
use Rattle.session.specs.Regions.{Regions, joined, path_room, clip_room, opens_as, the_printer}
use Rattle.session.specs.Views.{order_of, regions_of}
use Rattle.session.proofs.Cutting.{same_regs}
use Rattle.session.proofs.Opening.{is_path_room, is_clip_room, stored_well}
use Rattle.session.proofs.Rightness.{right}
use Rattle.session.proofs.Serving.{serves_open, is_carried}
use Rattle.session.proofs.session.open.Goals as goal

pub lay-requires : goal.lay-requires
lay-requires c =
    let s = stored_well _ _ _ _ _ c.in_default.ensures refl c.in-Ok.ensures in
    record { words = omega (arith, s.4, c.store_tokens.auto.words); bytes = (s.5, s.6) }

pub returns-in-Ok : goal.returns-in-Ok
returns-in-Ok c =
    let o = order_of c.args.source.now c.args.order (length c.args.words.now) (length c.args.bytes.now) in
    let s = stored_well _ _ _ _ _ c.in_default.ensures refl c.in-Ok.ensures in
    let l = c.lay.ensures.rooms in
    let p : length c.lay.result.path.now ≡ path_room = l.0 ∙ sym is_path_room in
    let k : length c.lay.result.clips.now ≡ clip_room = l.1 ∙ sym is_clip_room in
    let zeros = λ (n : ℕ). replicate n 0 in
    let g = c.lay.ensures.regions in
    let e : ready (joined (regions_of c.lay.result)) ≡ opens_as o = ap (λ (z : Regions). ready (joined z)) (g ∙ same_regs _ _ _ _ _ _ _ _ _ _ _ _ s.3 refl (ap zeros p) (ap zeros k) refl refl) ∙ sym s.2 in
    record {
      opened = e;
      memory = (ap (λ (z : Regions). length z.header) g, p, k);
      serves = serves_open whole the_printer o _ right (is_carried o (λ i. let f : Fits w8 (get_or c.args.source.now i 0) = c.type_inv.source i in omega arith) (omega arith) (omega arith) (omega arith) (omega arith) (omega arith) (omega arith)) e;
    }
