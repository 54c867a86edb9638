-- What a caller lives on: it follows from the main promise alone.
use Rattle.std.proofs.Common.{◌≡◌, ℕ, ◌<◌, Bool, true, [], ◌∷◌, get_or, sym, refl, subst}
use Rattle.std.proofs.lemmas.Bool.{lt-ltb, and_from}
use Rattle.tokens.specs.Token.{Tokens}
use Rattle.lexer.specs.Reading.{Read, tokens, read}
use Rattle.lexer.specs.Reading as reading
use Rattle.session.specs.Jobs.{Job, Asked, answer, answers}
use Rattle.session.specs.Promise.{Memory, ready, Order, Printer, told_by, job_of, all_below, carried, GoodOpening, Right, Serves}
use Rattle.session.proofs.Below.{below_from}

pub serves_says : (r : Printer) (j : Job) (m : Memory) → Serves r j m → (q : Asked) → r.says m q ≡ answer j q
unfolding told_by answers
serves_says r j m s q = let e = s (q ∷ []) in cc

pub serves_next : (r : Printer) (j : Job) (m : Memory) → Serves r j m → (q : Asked) → Serves r j (r.next m q)
unfolding told_by answers
serves_next r j m s q = λ qs. let e = s (q ∷ qs) in cc

serves_at : (can : ℕ → Bool) (r : Printer) (o : Order) (d : Read) (m : Memory) → GoodOpening can r o d (ready m) → (ts : Tokens) × (d ≡ tokens ts) × Serves r (job_of o ts) m
unfolding GoodOpening
serves_at can r o (reading.Read.refused k p) m g = absurd g
serves_at can r o (tokens ts) m g = (ts, refl, λ qs. (g.1 qs).0)

pub serves_open : (can : ℕ → Bool) (r : Printer) (o : Order) (m : Memory) → Right can r → carried o ≡ true → ready m ≡ r.opens o → (ts : Tokens) × (read can o.bytes ≡ tokens ts) × Serves r (job_of o ts) m
unfolding Right
serves_open can r o m right e s = serves_at can r o (read can o.bytes) m (subst (GoodOpening can r o (read can o.bytes)) (sym s) (right o e))

-- an order that a caller hands over
pub is_carried : (o : Order) → ((i : ℕ) → get_or o.bytes i 0 < 256) → o.steps < 18446744073709551616 → o.wide < 18446744073709551616 → o.tall < 18446744073709551616 → o.kept < 18446744073709551616 →
    o.words_lent < 18446744073709551616 → o.bytes_lent < 18446744073709551616 → carried o ≡ true
unfolding all_below
is_carried o f a b c d e g =
    and_from _ _ (below_from 256 o.bytes f)
    (and_from _ _ (lt-ltb _ _ a) (and_from _ _ (lt-ltb _ _ b) (and_from _ _ (lt-ltb _ _ c) (and_from _ _ (lt-ltb _ _ d) (and_from _ _ (lt-ltb _ _ e) (and_from _ _ (lt-ltb _ _ g) refl))))))
