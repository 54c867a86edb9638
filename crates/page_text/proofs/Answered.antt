-- What an answer to the question for a band says of the job.
use Rattle.std.proofs.Common.{◌≡◌, ℕ, ◌+◌, ◌<◌, ◌≤◌, true, false, ◌&&◌, ltb, leb, ◌⊎◌, List, [], length, get_or, Ok, Err, sym, refl, inl, inr, arith}
use Rattle.std.proofs.lemmas.Bool.{lt-ltb, le-ltb, le-leb, lt-leb, and_from, and_left, cases_lt}
use Rattle.raster.specs.Coverage.{rows}
use Rattle.session.specs.Jobs.{Job, shown, band, ended, dots, refused, answer}
use Rattle.session.specs.declared.question.Reason.TheVariants.{NoSuchPage, NoSuchRows}
use Rattle.page_text.specs.declared.page.Missing.{Missing}
use Rattle.session.specs.declared.question.Reason.{Reason}
use Rattle.session.specs.Views.{reason_number}
use Rattle.page_text.specs.declared.page.Missing.TheVariants.{NoRoom, Unanswered}
use Rattle.page_text.specs.Rows.{Placed, outcome}

no_page : (j : Job) (p y n : ℕ) → length (shown j) ≤ p → answer j (band p y n) ≡ refused 4
unfolding answer
no_page j p y n h = let a : ltb p (length (shown j)) ≡ false = le-ltb _ _ h in simp a

no_rows : (j : Job) (p y n : ℕ) → p < length (shown j) → j.tall < y + n → answer j (band p y n) ≡ refused 5
unfolding answer
no_rows j p y n h i =
    let a : ltb p (length (shown j)) ≡ true = lt-ltb _ _ h in
    let b : (leb (y + n) j.tall && leb n 64) ≡ false = and_left _ _ (lt-leb _ _ i) in
    simp (a, b)

has_rows : (j : Job) (p y n : ℕ) → p < length (shown j) → y + n ≤ j.tall → n ≤ 64 → answer j (band p y n) ≡ dots (rows (get_or (shown j) p []) j.wide y n)
unfolding answer
has_rows j p y n h i k =
    let a : ltb p (length (shown j)) ≡ true = lt-ltb _ _ h in
    let b : (leb (y + n) j.tall && leb n 64) ≡ true = and_from _ _ (le-leb _ _ i) (le-leb _ _ k) in
    simp (a, b)

-- the three ways in which a question for at most 64 rows is answered
band_cases : (j : Job) (p y n : ℕ) → n ≤ 64 →
    ((p < length (shown j)) × (y + n ≤ j.tall) × (answer j (band p y n) ≡ dots (rows (get_or (shown j) p []) j.wide y n)))
    ⊎ (((p < length (shown j)) × (j.tall < y + n) × (answer j (band p y n) ≡ refused 5)) ⊎ ((length (shown j) ≤ p) × (answer j (band p y n) ≡ refused 4)))
band_cases j p y n few =
    elim (cases_lt p (length (shown j))) [
      | inl h ↦ elim (cases_lt j.tall (y + n)) [ inl i ↦ inr (inl (h, i, no_rows j p y n h i)) | inr i ↦ inl (h, i, has_rows j p y n h i few) ]
      | inr h ↦ inr (inr (h, no_page j p y n h))
    ]

clash : {A : Type 0} → ◌≡◌ {A = ℕ} 0 1 → A
clash e = let no : ⊥ = omega arith in absurd no

pub by_dots : (j : Job) (p y n : ℕ) (ds : List ℕ) → n ≤ 64 → dots ds ≡ answer j (band p y n) → (p < length (shown j)) × (y + n ≤ j.tall) × (ds ≡ rows (get_or (shown j) p []) j.wide y n)
by_dots j p y n ds few e =
    elim (band_cases j p y n few) [
      | inl (h, i, a) ↦ (h, i, cc)
      | inr (inl (h, i, a)) ↦ clash (cc)
      | inr (inr (h, a)) ↦ clash (cc)
    ]

by_four : (j : Job) (p y n : ℕ) → n ≤ 64 → refused 4 ≡ answer j (band p y n) → length (shown j) ≤ p
by_four j p y n few e =
    elim (band_cases j p y n few) [
      | inl (h, i, a) ↦ clash (cc)
      | inr (inl (h, i, a)) ↦ let five : ◌≡◌ {A = ℕ} 4 5 = cc in let no : ⊥ = omega arith in absurd no
      | inr (inr (h, a)) ↦ h
    ]

by_five : (j : Job) (p y n : ℕ) → n ≤ 64 → refused 5 ≡ answer j (band p y n) → (p < length (shown j)) × (j.tall < y + n)
by_five j p y n few e =
    elim (band_cases j p y n few) [
      | inl (h, i, a) ↦ clash (cc)
      | inr (inl (h, i, a)) ↦ (h, i)
      | inr (inr (h, a)) ↦ let five : ◌≡◌ {A = ℕ} 4 5 = cc in let no : ⊥ = omega arith in absurd no
    ]

pub by_end : (j : Job) (p y n a b : ℕ) → n ≤ 64 → ended a b ≡ answer j (band p y n) → ⊥
by_end j p y n a b few e =
    elim (band_cases j p y n few) [
      | inl (h, i, f) ↦ clash (cc)
      | inr (inl (h, i, f)) ↦ clash (cc)
      | inr (inr (h, f)) ↦ clash (cc)
    ]

pub by_refusal : (why : Reason) (j : Job) (p y n at : ℕ) (out : List ℕ) → n ≤ 64 → refused (reason_number why) ≡ answer j (band p y n) → Placed (Err (Unanswered why)) j p y n at out out
by_refusal NoSuchPage j p y n at out few e = (by_four j p y n few e, refl)
by_refusal NoSuchRows j p y n at out few e = let d = by_five j p y n few e in (d.0, d.1, refl)

-- what asking for rows comes to, by the page and the rows that there are
outcome_page : (j : Job) (p to : ℕ) → length (shown j) ≤ p → outcome j p to ≡ Err (Unanswered NoSuchPage)
outcome_page j p to h = let a : ltb p (length (shown j)) ≡ false = le-ltb _ _ h in simp a

outcome_rows : (j : Job) (p to : ℕ) → p < length (shown j) → j.tall < to → outcome j p to ≡ Err (Unanswered NoSuchRows)
outcome_rows j p to h i = let a : ltb p (length (shown j)) ≡ true = lt-ltb _ _ h in let b : leb to j.tall ≡ false = lt-leb _ _ i in simp (a, b)

pub outcome_whole : (j : Job) (p to : ℕ) → p < length (shown j) → to ≤ j.tall → outcome j p to ≡ Ok tt
outcome_whole j p to h i = let a : ltb p (length (shown j)) ≡ true = lt-ltb _ _ h in let b : leb to j.tall ≡ true = le-leb _ _ i in simp (a, b)

-- a band that is missing tells how all comes out
pub outcome_missing : (m : Missing) (j : Job) (p y n at to : ℕ) (was out : List ℕ) → y + n ≤ to → Placed (Err m) j p y n at was out → Err m ≡ outcome j p to
outcome_missing NoRoom j p y n at to was out le h = absurd h
outcome_missing (Unanswered NoSuchPage) j p y n at to was out le h = sym (outcome_page j p to h.0)
outcome_missing (Unanswered NoSuchRows) j p y n at to was out le h = sym (outcome_rows j p to h.0 (omega arith))

-- and none is, where the page has the rows
pub none_missing : (m : Missing) (j : Job) (p y n at to : ℕ) (was out : List ℕ) → y + n ≤ to → p < length (shown j) → to ≤ j.tall → Placed (Err m) j p y n at was out → ⊥
none_missing NoRoom j p y n at to was out le h i d = d
none_missing (Unanswered NoSuchPage) j p y n at to was out le h i d = omega (arith, d.0)
none_missing (Unanswered NoSuchRows) j p y n at to was out le h i d = omega (arith, d.1)
