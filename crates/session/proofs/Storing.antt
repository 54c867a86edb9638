-- A text that is stored to be listed: what stands in the words then.
use Rattle.std.proofs.Common.{◌≡◌, ℕ, ◌+◌, ◌≤◌, min, List, ◌++◌, length, take, drop, replicate, Ok, sym, refl, ap, ◌∙◌, subst, arith}
use Rattle.std.proofs.lemmas.List.{take_at, drop_at, drop-drop, take-take, length-take-le}
use Rattle.tokens.specs.Token.{Tokens}
use Rattle.tokens.specs.Stored.{decode, all_stored}
use Rattle.tokens.specs.Stage.{whole}
use Rattle.lexer.specs.Reading.{Read, refused, tokens, read}
use Rattle.lexer.proofs.Ranges.{read_in_range}
use Rattle.text.specs.Storing.{StoredAs}
use Rattle.machine.specs.Machine.{run, begin}
use Rattle.machine.specs.Laws.{state_of}
use Rattle.listing.specs.Lines.{listing_of}
use Rattle.session.specs.Listed.{listed, job_listing, listed_by, ListedAs, Judged}
use Rattle.session.proofs.Below.{stored_length}
use Rattle.session.proofs.Rightness.{runs_whole}

-- what a run of stored tokens is listed as
abbrev run_listing : ℕ → List ℕ → List ℕ
run_listing n text = listing_of (state_of (run n (begin (decode text))))

-- from a text that was judged and stored in words ws, which are vs then: there is room behind the tokens, what they are listed as is the text's listing,
-- and all words behind the room are as they were
pub record Stored (d : Read) (steps n used : ℕ) (ws vs : List ℕ) : Type 0 where
  pub room : used + 6148 ≤ length ws
  pub text : List ℕ
  pub is : listed_by d steps (length ws) ≡ listed (used + 6144) text
  pub same : run_listing n (take used (take (used + 6144) vs)) ≡ text
  pub behind : drop (used + 6144) vs ≡ drop (used + 6144) ws

stored_as : (d : Read) (steps n used : ℕ) (ws vs : List ℕ) → ((ts : Tokens) (k : ℕ) → d ≡ tokens ts → run_listing k (all_stored ts) ≡ job_listing ts k) →
    Judged (Ok n) d steps (length ws) → StoredAs (Ok used) d ws vs → Stored d steps n used ws vs
stored_as (refused k p) steps n used ws vs whole j s = absurd j
stored_as (tokens ts) steps n used ws vs whole j s =
    let small = stored_length ts in
    let front : take used vs ≡ all_stored ts = ap (take used) s.1 ∙ take_at (all_stored ts) (drop used ws) used (sym s.0) in
    record {
      room = omega (arith, s.0, j.1);
      text = job_listing ts steps;
      is = j.2 ∙ ap (λ z. listed (z + 6144) (job_listing ts steps)) (sym s.0);
      same =
          ap (run_listing n) (take-take used (used + 6144) vs (omega arith) ∙ front)
          ∙ whole ts n refl
          ∙ ap (job_listing ts) j.0;
      behind =
          sym (drop-drop 6144 used vs)
          ∙ ap (drop 6144) (ap (drop used) s.1 ∙ drop_at (all_stored ts) (drop used ws) used (sym s.0))
          ∙ drop-drop 6144 used ws;
    }

pub stored_to_list : (bs : List ℕ) (steps n used : ℕ) (ws vs : List ℕ) → Judged (Ok n) (read whole bs) steps (length ws) → StoredAs (Ok used) (read whole bs) ws vs → Stored (read whole bs) steps n used ws vs
stored_to_list bs steps n used ws vs = stored_as (read whole bs) steps n used ws vs (λ ts k e. ap (λ w. listing_of (state_of w)) (runs_whole ts k (read_in_range whole bs ts e)))

-- what a run for the listing then leaves is what is promised
pub is_listed : {d : Read} {steps n used : ℕ} {ws vs : List ℕ} → Stored d steps n used ws vs → (m r : ℕ) (bs front cs : List ℕ) → m ≡ used + 6144 → length vs ≡ length ws →
    r ≡ min (length (run_listing n (take used (take m vs)))) 18446744073709551615 → front ≡ replicate (length (take m vs)) 0 →
    cs ≡ take (length bs) (run_listing n (take used (take m vs))) ++ drop (length (run_listing n (take used (take m vs)))) bs → ListedAs (Ok r) (listed_by d steps (length ws)) ws bs (front ++ drop m vs) cs
is_listed {d} {steps} {n} {used} {ws} {vs} s m r bs front cs e len value words bytes =
    let same = ap (λ z. run_listing n (take used (take z vs))) e ∙ s.same in
    let zeros : front ≡ replicate (used + 6144) 0 = words ∙ ap (λ k. replicate k 0) (length-take-le m vs (omega (arith, s.room)) ∙ e) in
    subst (λ z. ListedAs (Ok r) z ws bs (front ++ drop m vs) cs) (sym s.is) (
      value ∙ ap (λ t. min (length t) 18446744073709551615) same,
      ap (λ z. z ++ drop m vs) zeros ∙ ap (λ z. replicate (used + 6144) 0 ++ z) (ap (λ k. drop k vs) e ∙ s.behind),
      bytes ∙ ap (λ t. take (length bs) t ++ drop (length t) bs) same,
    )
