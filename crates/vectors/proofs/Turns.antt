-- What the loops of `vectors` owe from one turn to the next, what a record's layout says, and that a
-- call's Result holds all of its answer.
-- Assumes nothing.
use Rattle.std.proofs.Common.{◌≡◌, ◌∙◌, ℕ, zero, suc, ◌+◌, ◌-◌, ◌*◌, ◌≤◌, Bool, true, false, ◌&&◌, T, eqb, leb, List, [], ◌∷◌, ◌++◌, length, take, drop, sym, refl, ap, subst, add-one, arith, eqb-true, leb-true}
use lib.Ieee.{Float}
use borrow.Author.Tests.{eqb-false}
use Rattle.words.specs.Words.{word32, number_at}
use Rattle.sheet.specs.declared.Entry.{Entry}
use Rattle.sheet.specs.declared.Refusal.{Refusal}
use Rattle.sheet.specs.Layout.{step_count_of, kind_at, entry_at}
use Rattle.sheet.specs.Rules.{has_deformation, refusal_of}
use Rattle.chain.specs.Chain.{entries_of}
use Rattle.chain.specs.Rules.{shift_refusal_of, outcome, handed_out, outcome_of, shift_of}
use Rattle.chain.proofs.Outcome.{hands_out_a_refusal, hands_out_tallies, refused-by, run-by}
use Rattle.vectors.specs.Replay.{differ, differing_of, numbers_of, sheet_length, tuple_count, velocity_count, velocities_at, marks_at, laid_out, shifted_of, answer_in}

-- one place more
pub differing_next : (found told : ℕ → ℕ) (i : ℕ) → differing_of found told (i + 1) ≡ differing_of found told i + differ (found i) (told i)
unfolding differing_of
differing_next found told i = rw add-one

-- one number more
pub numbers_next : (s : List ℕ) (at i : ℕ) → numbers_of s at (suc i) ≡ numbers_of s at i ++ (number_at s (at + 8 * i) ∷ [])
unfolding numbers_of
numbers_next s at zero = let e : at + 8 * 0 ≡ at = omega arith in rw e
numbers_next s at (suc i) = let e : at + 8 + 8 * i ≡ at + 8 * suc i = omega arith in ap (λ (l : List Float). number_at s at ∷ l) (rw e at (numbers_next s (at + 8) i))

-- ---- a record's layout

left : (a b : Bool) → a && b ≡ true → a ≡ true
left true b h = refl
left false b h = h

right : (a b : Bool) → a && b ≡ true → b ≡ true
right true b h = h
right false b h = absurd (subst T (sym h) tt)

pub record Laid (job : List ℕ) : Type 0 where
  pub tuples : tuple_count job ≤ 24
  pub velocities : velocity_count job ≤ 24
  pub whole : length job ≡ marks_at job + velocity_count job

pub laid : (job told : List ℕ) → laid_out job told ≡ true → Laid job
unfolding laid_out
laid job told h =
    let abcd = left _ (eqb (length told) (72 + 32 * tuple_count job)) h in
    let abc = left _ (eqb (length job) (marks_at job + velocity_count job)) abcd in
    let ab = left _ (leb (velocity_count job) 24) abc in
    record {
      tuples = leb-true _ _ (right (leb (word32 job 0) 1) _ ab);
      velocities = leb-true _ _ (right (leb (word32 job 0) 1 && leb (tuple_count job) 24) _ abc);
      whole = eqb-true _ _ (right (leb (word32 job 0) 1 && leb (tuple_count job) 24 && leb (velocity_count job) 24) _ abcd);
    }

-- the parts that are lent to the chain are the job's
pub lent : (job : List ℕ) {direction sheet tuples velocities marks : ℕ} → direction ≡ word32 job 0 → sheet ≡ sheet_length job → tuples ≡ 4 * tuple_count job → velocities ≡ 3 * velocity_count job → marks ≡ velocity_count job
    → shift_of
    (eqb direction 1)
    (take (16 + sheet - 16) (drop 16 job))
    (numbers_of job (16 + sheet) tuples)
    (numbers_of job (16 + sheet + 8 * tuples) velocities)
    (take (16 + sheet + 8 * tuples + 8 * velocities + marks - (16 + sheet + 8 * tuples + 8 * velocities)) (drop (16 + sheet + 8 * tuples + 8 * velocities) job))
    ≡ shifted_of job
unfolding shifted_of
lent job {direction} {sheet} {tuples} {velocities} {marks} d s t v m =
    let the-sheet : 16 + sheet - 16 ≡ sheet_length job = omega arith in
    let from : 16 + sheet + 8 * tuples + 8 * velocities ≡ marks_at job = omega arith in
    let before : 16 + sheet + 8 * tuples ≡ velocities_at job = omega arith in
    let the-marks : marks_at job + marks - marks_at job ≡ velocity_count job = omega arith in
    rw (d, the-sheet, from, the-marks, before, s, t, v)

-- ---- what the chain hands out is its answer

by_outcome : (own : Refusal) (deforms inverse : Bool) (es : List Entry) (l velocities : List Float) (marks : List ℕ)
    → let o = outcome_of own deforms inverse es l velocities marks in outcome (answer_in (handed_out o.answer)) o.list ≡ o
by_outcome own deforms inverse es l velocities marks = by _ refl
  where
    r : Refusal
    r = shift_refusal_of own deforms l velocities marks

    by : (b : Bool) → eqb r.number 0 ≡ b
        → let o = outcome_of own deforms inverse es l velocities marks in outcome (answer_in (handed_out o.answer)) o.list ≡ o
    by true e = rw (run-by own deforms inverse es l velocities marks r refl (eqb-true _ _ e), hands_out_tallies)
    by false e =
        let h = eqb-false _ _ e in
        rw (refused-by own deforms inverse es l velocities marks r refl h, hands_out_a_refusal r h)

by_call : (inverse : Bool) (s : List ℕ) (l velocities : List Float) (marks : List ℕ)
    → let o = shift_of inverse s l velocities marks in outcome (answer_in (handed_out o.answer)) o.list ≡ o
unfolding shift_of
by_call inverse s l velocities marks =
    by_outcome (refusal_of s) (has_deformation (kind_at s) (step_count_of s)) inverse (entries_of (entry_at s) (step_count_of s) 0) l velocities marks

-- so a call that makes of a list what a job asks for hands the job's answer out
pub handed_out_by : (job : List ℕ) (inverse : Bool) (s : List ℕ) (l velocities : List Float) (marks : List ℕ)
    → let o = shift_of inverse s l velocities marks in o ≡ shifted_of job → outcome (answer_in (handed_out o.answer)) o.list ≡ shifted_of job
handed_out_by job inverse s l velocities marks e = by_call inverse s l velocities marks ∙ e
