use Rattle.std.proofs.Common.{◌≡◌, ◌+◌, ◌-◌, ◌++◌, length, take, drop, ap, ◌∙◌, arith}
use borrow.Rule.Slice.PartMut.{put_mid}
use Rattle.std.proofs.lemmas.List.{drop-drop}
use Rattle.page_text.proofs.page.copy_at.Goals as goal

pub returns : goal.returns
returns c =
    let at = c.args.at in
    let part = c.args.part.now in
    let out = c.args.out.now in
    let k : at + length part - at ≡ length part = omega arith in
    ap (λ z. put_mid at (at + length part - at) out z) c.copy_from_slice.ensures.after
    ∙ ap (λ z. take at out ++ (part ++ drop z (drop at out))) k
    ∙ ap (λ z. take at out ++ (part ++ z)) (drop-drop (length part) at out)
