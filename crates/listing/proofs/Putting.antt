-- Text that a writer puts piece by piece.
use Rattle.std.proofs.Common.{◌≡◌, ℕ, List, [], ◌∷◌, ◌++◌, sym, refl, ap, ◌∙◌}
use Rattle.std.specs.List.{flat_map}
use Rattle.listing.specs.Output.{put_text}
use Rattle.listing.specs.Views.{output_of, Puts}
use Rattle.listing.specs.declared.writer.Writer.{Writer}
use Rattle.listing.proofs.Writing.{wrote_none, put_append, then, same_text}

pub put_none : (w : Writer) → Puts [] w w
put_none w = record { wrote = wrote_none (output_of w); lent = refl }

pub then_put : {xs ys : List ℕ} {u v w : Writer} → Puts xs u v → Puts ys v w → Puts (xs ++ ys) u w
then_put p q = record { wrote = then p.wrote q.wrote; lent = q.lent ∙ p.lent }

pub put_as : {xs ys : List ℕ} {u v : Writer} → xs ≡ ys → Puts xs u v → Puts ys u v
put_as e p = record { wrote = same_text e p.wrote; lent = p.lent }

-- with the text that is left put too, all is what it would be with this text put before
pub record Left (rest : List ℕ) (now : Writer) (all : List ℕ) (before : Writer) : Type 0 where
  pub is : put_text rest (output_of now) ≡ put_text all (output_of before)
  pub lent : now.bytes.ghost_name ≡ before.bytes.ghost_name

module _ {X : Type 0} (f : X → List ℕ) where
  -- one piece more is put
  pub pieces_more : (x : X) (xs ys : List X) {all : List ℕ} {u v w : Writer} → ys ≡ x ∷ xs → Puts (f x) u v → Left (flat_map f ys) u all w → Left (flat_map f xs) v all w
  pieces_more x xs ys {u = u} e p l =
      record {
        is = ap (put_text (flat_map f xs)) p.wrote.is ∙ sym (put_append (f x) (flat_map f xs) (output_of u)) ∙ sym (ap (λ z. put_text (flat_map f z) (output_of u)) e) ∙ l.is;
        lent = p.lent ∙ l.lent;
      }

  -- none is left
  pub pieces_all : (ys : List X) {all : List ℕ} {v w : Writer} → ys ≡ [] → Left (flat_map f ys) v all w → Puts all w v
  pieces_all ys {v = v} e l = record { wrote = record { is = (wrote_none (output_of v)).is ∙ sym (ap (λ z. put_text (flat_map f z) (output_of v)) e) ∙ l.is }; lent = l.lent }
