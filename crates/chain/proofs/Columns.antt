-- A call over columns: which outcome each test leads to; and that for columns of one length it
-- answers what a call over the flat list that they stand for answers, and leaves the columns of
-- what that call leaves. Assumes nothing.
use Prim.Native.Nat.{ℕ, ◌*◌, ◌%◌, ◌≤◌}
use native.Mathlib.Omega.{arith}
use mathlib.Core.Path.{◌≡◌, refl, sym, ap, ◌∙◌}
use mathlib.Core.Bool.{Bool, true, false, not, cond, ◌||◌}
use mathlib.Core.List.{List, []}
use borrow.Author.Tests.{eq-eqb, ne_eqb, eqb-true, not-false, ltb-true, ltb-false, lt-ltb, le-ltb}
use lib.Dec.{eqb, ltb}
use lib.ListN.{length}
use lib.Ieee.{Float}
use Rattle.columns.specs.Columns.{Columns, columns, Level, flat_of, columns_of}
use Rattle.columns.proofs.Laws.{flat-length, back-x, back-y, back-z, back-t, back_and_there}
use Rattle.sheet.specs.declared.Entry.{Entry}
use Rattle.sheet.specs.declared.Refusal.{Refusal}
use Rattle.sheet.specs.Layout.{step_count_of, kind_at, entry_at}
use Rattle.sheet.specs.Rules.{of_call, first_broken, has_deformation, refusal_of}
use Rattle.sheet.proofs.Order.{neither}
use Rattle.std.specs.Prelude.{Result, Ok, Err}
use Rattle.tally.specs.declared.Tally.{Tally}
use Rattle.plans.specs.Lent.{lent_of}
use Rattle.chain.specs.Chain.{Run, chain_of, places_of, entries_of}
use Rattle.chain.specs.Rules.{refusal9, refusal10, shift_refusal_of, call_refusal_of, outcome, handed_out, refused_answer, ran_outcome, outcome_of, shift_of}
use Rattle.chain.specs.Columns.{refusal9_columns, columns_refusal_of, ColumnsOutcome, columns_outcome, ran_columns, columns_outcome_of, shift_columns_of}
use Rattle.chain.proofs.Outcome.{hands_out_a_refusal, hands_out_tallies}
use Rattle.chain.proofs.Counts.{chain_length}

-- ---- rule 9 kept: columns of one length, of at most 2,048 rows

pub nine_kept : (x y z t : ℕ) → refusal9_columns x y z t ≡ false → ((y ≡ x) × (z ≡ x) × (t ≡ x)) × (x ≤ 2048)
unfolding refusal9_columns
nine_kept x y z t e =
    let a = neither (not (eqb y x) || not (eqb z x) || not (eqb t x)) (ltb 2048 x) e in
    let b = neither (not (eqb y x) || not (eqb z x)) (not (eqb t x)) a.0 in
    let c = neither (not (eqb y x)) (not (eqb z x)) b.0 in
    ((eqb-true y x (not-false _ c.0), eqb-true z x (not-false _ c.1), eqb-true t x (not-false _ b.1)), ltb-false 2048 x a.1)

-- ---- which outcome each test leads to

module _ (own : Refusal) (deforms inverse : Bool) (es : List Entry) (c : Columns) (velocities : List Float) (marks : List ℕ) where
  abbrev nine : Bool
  nine = refusal9_columns (length c.x) (length c.y) (length c.z) (length c.t)

  abbrev ten : Bool
  ten = refusal10 deforms (4 * length c.x) velocities marks

  pub columns-refused-own : (own.number ≡ 0 → ⊥) → columns_outcome_of own deforms inverse es c velocities marks ≡ columns_outcome (refused_answer own) c
  unfolding columns_outcome_of columns_refusal_of first_broken
  columns-refused-own h = rw (ne_eqb own.number 0 h, ne_eqb own.number 0 h)

  pub columns-refused-9 : own.number ≡ 0 → nine ≡ true → columns_outcome_of own deforms inverse es c velocities marks ≡ columns_outcome (refused_answer (of_call 9)) c
  unfolding columns_outcome_of columns_refusal_of first_broken
  columns-refused-9 h e = rw (eq-eqb own.number 0 h, e)

  pub columns-refused-10 : own.number ≡ 0 → nine ≡ false → ten ≡ true → columns_outcome_of own deforms inverse es c velocities marks ≡ columns_outcome (refused_answer (of_call 10)) c
  unfolding columns_outcome_of columns_refusal_of first_broken
  columns-refused-10 h e f = rw (eq-eqb own.number 0 h, e, f)

  pub columns-run-through : own.number ≡ 0 → nine ≡ false → ten ≡ false
      → columns_outcome_of own deforms inverse es c velocities marks ≡ ran_columns (chain_of inverse (lent_of velocities marks []) es (flat_of c.x c.y c.z c.t))
  unfolding columns_outcome_of columns_refusal_of first_broken
  columns-run-through h e f = rw (eq-eqb own.number 0 h, e, f)

-- ---- which outcome the refusal of a call leads to, and what a function hands out of it

abbrev pub ToldColumns : Result (List Tally) Refusal → Columns → ColumnsOutcome → Type 0
ToldColumns result c o = (result ≡ handed_out o.answer) × (c ≡ o.columns)

pub columns_told_refused : {result : Result (List Tally) Refusal} {c : Columns} {o : ColumnsOutcome} (r : Refusal) → o ≡ columns_outcome (refused_answer r) c
    → (r.number ≡ 0 → ⊥) → result ≡ Err r → ToldColumns result c o
columns_told_refused r e h p = rw e (p ∙ sym (hands_out_a_refusal r h), refl)

pub columns_told-ran : {tallies : List Tally} {c : Columns} {o : ColumnsOutcome} (run : Run) → o ≡ ran_columns run → tallies ≡ places_of run.tallies → c ≡ columns_of run.list
    → ToldColumns (Ok tallies) c o
columns_told-ran run e p q = rw e (ap Ok p ∙ sym (hands_out_tallies (places_of run.tallies)), q)

pub columns-refusal : (own : Refusal) (deforms : Bool) (c : Columns) (velocities : List Float) (marks : List ℕ) {nine : Bool}
    → nine ≡ refusal9_columns (length c.x) (length c.y) (length c.z) (length c.t)
    → columns_refusal_of own deforms c velocities marks ≡ call_refusal_of own nine deforms (4 * length c.x) velocities marks
unfolding columns_refusal_of
columns-refusal own deforms c velocities marks e = rw e

module _ (own : Refusal) (deforms inverse : Bool) (es : List Entry) (c : Columns) (velocities : List Float) (marks : List ℕ) where
  pub columns-refused-by : (r : Refusal) → columns_refusal_of own deforms c velocities marks ≡ r → (r.number ≡ 0 → ⊥)
      → columns_outcome_of own deforms inverse es c velocities marks ≡ columns_outcome (refused_answer r) c
  unfolding columns_outcome_of
  columns-refused-by r e h = rw (e, ne_eqb r.number 0 h)

  pub columns-run-by : (r : Refusal) → columns_refusal_of own deforms c velocities marks ≡ r → r.number ≡ 0
      → columns_outcome_of own deforms inverse es c velocities marks ≡ ran_columns (chain_of inverse (lent_of velocities marks []) es (flat_of c.x c.y c.z c.t))
  unfolding columns_outcome_of
  columns-run-by r e h = rw (e, eq-eqb r.number 0 h)

-- columns of one length are those of the flat list that they stand for
pub columns_of_lem : (x y z t : List Float) {l : List Float} → Level x y z t → flat_of x y z t ≡ l → columns x y z t ≡ columns_of l
columns_of_lem x y z t level e = rw (← e, back-x x y z t level, back-y x y z t level, back-z x y z t level, back-t x y z t level)

-- ---- the flat answer

-- rule 9 of columns of one length is rule 9 of the flat list
same_nine_at : (n : ℕ) (b : Bool) → ltb 2048 n ≡ b → refusal9 (4 * n) ≡ b
unfolding refusal9
same_nine_at n true e = let m : 4 * n % 4 ≡ 0 = omega arith in rw (eq-eqb (4 * n % 4) 0 m) (lt-ltb 8192 (4 * n) (omega (arith, ltb-true 2048 n e)))
same_nine_at n false e = let m : 4 * n % 4 ≡ 0 = omega arith in rw (eq-eqb (4 * n % 4) 0 m) (le-ltb 8192 (4 * n) (omega (arith, ltb-false 2048 n e)))

pub level_nine : (x y z t : List Float) → Level x y z t → refusal9_columns (length x) (length y) (length z) (length t) ≡ refusal9 (length (flat_of x y z t))
unfolding refusal9_columns
level_nine x y z t h =
    rw (flat-length x y z t h, same_nine_at (length x) (ltb 2048 (length x)) refl, eq-eqb (length y) (length x) h.0, eq-eqb (length z) (length x) h.1, eq-eqb (length t) (length x) h.2)

module _ (inverse : Bool) (s : List ℕ) (x y z t velocities : List Float) (marks : List ℕ) (level : Level x y z t) where
  same_refusal : (own : Refusal) (deforms : Bool) → columns_refusal_of own deforms (columns x y z t) velocities marks ≡ shift_refusal_of own deforms (flat_of x y z t) velocities marks
  unfolding columns_refusal_of shift_refusal_of
  same_refusal own deforms = rw (level_nine x y z t level, flat-length x y z t level)

  abbrev own : Refusal
  own = refusal_of s

  abbrev deforms : Bool
  deforms = has_deformation (kind_at s) (step_count_of s)

  abbrev refusal : Refusal
  refusal = shift_refusal_of own deforms (flat_of x y z t) velocities marks

  abbrev run : Run
  run = chain_of inverse (lent_of velocities marks []) (entries_of (entry_at s) (step_count_of s) 0) (flat_of x y z t)

  either-answer : (b : Bool) (r : Refusal) (run : Run) (c : Columns) (l : List Float)
      → (cond b (ran_columns run) (columns_outcome (refused_answer r) c)).answer ≡ (cond b (ran_outcome run) (outcome (refused_answer r) l)).answer
  either-answer true r run c l = refl
  either-answer false r run c l = refl

  -- the answer is that of the flat entry on the converted list
  pub columns-give-the-flat-answer : (shift_columns_of inverse s (columns x y z t) velocities marks).answer ≡ (shift_of inverse s (flat_of x y z t) velocities marks).answer
  unfolding shift_columns_of shift_of columns_outcome_of outcome_of
  columns-give-the-flat-answer =
      rw (same_refusal own deforms) (either-answer (eqb refusal.number 0) refusal run (columns x y z t) (flat_of x y z t))

  abbrev flat : Columns → List Float
  flat c = flat_of c.x c.y c.z c.t

  either-list : (b : Bool) (r : Refusal) (run : Run) → length run.list % 4 ≡ 0
      → flat (cond b (ran_columns run) (columns_outcome (refused_answer r) (columns x y z t))).columns ≡ (cond b (ran_outcome run) (outcome (refused_answer r) (flat_of x y z t))).list
  either-list true r run h = back_and_there run.list h
  either-list false r run h = refl

  -- and the columns stand for the list that it leaves
  pub columns-stand-for-the-flat-list : flat (shift_columns_of inverse s (columns x y z t) velocities marks).columns ≡ (shift_of inverse s (flat_of x y z t) velocities marks).list
  unfolding shift_columns_of shift_of columns_outcome_of outcome_of
  columns-stand-for-the-flat-list =
      let whole : length run.list % 4 ≡ 0 = omega (arith, chain_length (lent_of velocities marks []) inverse (entries_of (entry_at s) (step_count_of s) 0) (flat_of x y z t), flat-length x y z t level) in
      rw (same_refusal own deforms) (either-list (eqb refusal.number 0) refusal run whole)

-- ---- columns of unequal length are refused, whatever else is wrong with the call but the sheet

unequal : (x y z t : ℕ) → ((y ≡ x) × (z ≡ x) × (t ≡ x) → ⊥) → (b : Bool) → refusal9_columns x y z t ≡ b → b ≡ true
unequal x y z t h true e = refl
unequal x y z t h false e = absurd (h (nine_kept x y z t e).0)

pub unequal_columns_are_refused : (inverse : Bool) (s : List ℕ) (c : Columns) (velocities : List Float) (marks : List ℕ) → (refusal_of s).number ≡ 0
    → (Level c.x c.y c.z c.t → ⊥) → shift_columns_of inverse s c velocities marks ≡ columns_outcome (refused_answer (of_call 9)) c
unfolding shift_columns_of
unequal_columns_are_refused inverse s c velocities marks own h =
    columns-refused-9 (refusal_of s) _ inverse _ c velocities marks own (unequal _ _ _ _ h _ refl)
