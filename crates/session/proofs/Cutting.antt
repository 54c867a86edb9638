-- The words are the regions one after another, and a cut gives the regions back.
use Rattle.std.proofs.Common.{◌≡◌, ℕ, ◌+◌, List, ◌++◌, take, drop, length, sym, refl, ap, ◌∙◌, subst}
use Rattle.std.proofs.lemmas.List.{take_at, drop_at, drop-drop, length-replicate}
use Rattle.session.specs.Jobs.{Asked, Answer}
use Rattle.session.specs.Regions.{Regions, regs, joined, cut, path_room, clip_room, Shaped, next_in, says_in, the_printer}

pub same_regs : (t h p c k b t2 h2 p2 c2 k2 b2 : List ℕ) → t ≡ t2 → h ≡ h2 → p ≡ p2 → c ≡ c2 → k ≡ k2 → b ≡ b2 → regs t h p c k b ≡ regs t2 h2 p2 c2 k2 b2
same_regs t h p c k b t2 h2 p2 c2 k2 b2 e f g i j l =
    ap (λ z. regs z h p c k b) e ∙ ap (λ z. regs t2 z p c k b) f ∙ ap (λ z. regs t2 h2 z c k b) g ∙ ap (λ z. regs t2 h2 p2 z k b) i ∙ ap (λ z. regs t2 h2 p2 c2 z b) j ∙ ap (regs t2 h2 p2 c2 k2) l

pub cut_joined : (g : Regions) → Shaped g → cut (joined g) ≡ g
cut_joined g h =
    let w : List ℕ = g.header ++ (g.path ++ (g.clips ++ g.kept)) in
    let a : drop 4 w ≡ g.path ++ (g.clips ++ g.kept) = drop_at g.header _ 4 h.0 in
    let b : drop (4 + path_room) w ≡ g.clips ++ g.kept = sym (drop-drop path_room 4 w) ∙ ap (drop path_room) a ∙ drop_at g.path _ path_room h.1 in
    let d : drop (4 + path_room + clip_room) w ≡ g.kept = sym (drop-drop clip_room (4 + path_room) w) ∙ ap (drop clip_room) b ∙ drop_at g.clips _ clip_room h.2 in
    same_regs _ _ _ _ _ _ _ _ _ _ _ _ refl (take_at g.header _ 4 h.0) (ap (take path_room) a ∙ take_at g.path _ path_room h.1) (ap (take clip_room) b ∙ take_at g.clips _ clip_room h.2) d refl

-- what the contract of asking says of the regions, said of the memory; and they stay as opening cuts them
pub promised : (g g2 : Regions) (q : Asked) (a : Answer) → g2 ≡ next_in g q → a ≡ says_in g q → Shaped g → Shaped g2 × (a ≡ the_printer.says (joined g) q) × (joined g2 ≡ the_printer.next (joined g) q)
promised g g2 q a e f h =
    let c = sym (cut_joined g h) in
    let shaped : Shaped (next_in g q) = (h.0, length-replicate (length g.path) 0 ∙ h.1, length-replicate (length g.clips) 0 ∙ h.2) in
    (subst Shaped (sym e) shaped, f ∙ ap (λ z. says_in z q) c, ap joined e ∙ ap (λ z. joined (next_in z q)) c)
