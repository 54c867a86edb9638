-- Rings: a walk through a point is two walks, so where a ring begins and which way round it goes change nothing.
use Rattle.std.proofs.Common.{◌≡◌, ℕ, Bool, true, false, [], ◌∷◌, ◌++◌, sym, refl, ap, ◌∙◌, ap₂}
use mathlib.Core.Bool.{or_comm}
use Rattle.path.specs.Path.{Point, Ring}
use Rattle.raster.specs.Coverage.{differ, rises, crosses, along, in_ring}
use Rattle.raster.specs.Laws.{reversed, AnyBeginning, EitherWay, SharedWay}

differ_comm : (x y : Bool) → differ x y ≡ differ y x
differ_comm true true = refl
differ_comm true false = refl
differ_comm false true = refl
differ_comm false false = refl

differ_assoc : (x y z : Bool) → differ x (differ y z) ≡ differ (differ x y) z
differ_assoc true true true = refl
differ_assoc true true false = refl
differ_assoc true false z = refl
differ_assoc false y z = refl

-- what both have goes away
differ_shared : (x y z : Bool) → differ (differ x z) (differ y z) ≡ differ x y
differ_shared true true true = refl
differ_shared true true false = refl
differ_shared true false true = refl
differ_shared true false false = refl
differ_shared false true true = refl
differ_shared false true false = refl
differ_shared false false true = refl
differ_shared false false false = refl

crosses_back : (p q : Point) (a b : ℕ) → crosses p q a b ≡ crosses q p a b
crosses_back p q a b = or_comm (rises p q a b) (rises q p a b)

-- a walk through p is the walk to p and the walk on from it
along_through : (f : Point) (ps : Ring) (p : Point) (qs : Ring) (l : Point) (a b : ℕ) → along f (ps ++ (p ∷ qs)) l a b ≡ differ (along p ps l a b) (along f qs p a b)
unfolding along
along_through f [] p qs l a b = refl
along_through f (q ∷ ps) p qs l a b = ap (differ (crosses l q a b)) (along_through f ps p qs q a b) ∙ differ_assoc (crosses l q a b) (along p ps q a b) (along f qs p a b)

along_back : (f : Point) (ps : Ring) (l : Point) (a b : ℕ) → along f (reversed ps) l a b ≡ along l ps f a b
unfolding along reversed
along_back f [] l a b = crosses_back l f a b
along_back f (p ∷ ps) l a b =
    along_through f (reversed ps) p [] l a b
    ∙ ap₂ differ (along_back p ps l a b) (crosses_back p f a b)
    ∙ differ_comm (along l ps p a b) (crosses f p a b)

pub any_beginning : AnyBeginning
unfolding in_ring along
any_beginning p [] a b = refl
any_beginning p (q ∷ qs) a b = along_through q qs p [] q a b ∙ differ_comm (along p qs q a b) (crosses p q a b)

pub either_way : EitherWay
unfolding in_ring reversed
either_way [] a b = refl
either_way (p ∷ ps) a b = any_beginning p (reversed ps) a b ∙ along_back p ps p a b

pub shared_way : SharedWay
unfolding in_ring along
shared_way p q ps qs a b =
    ap₂ differ (along_through p ps q [] p a b) (along_through q qs p [] q a b ∙ ap (differ (along p qs q a b)) (crosses_back p q a b))
    ∙ differ_shared (along q ps p a b) (along p qs q a b) (crosses q p a b)
    ∙ sym (along_through p ps q qs p a b)
