-- Which outcome each test of a call with a grid leads to. Assumes nothing.
use Prim.Native.Nat.{ℕ}
use native.Mathlib.Omega.{arith}
use mathlib.Core.Path.{◌≡◌, refl, sym, ap, ◌∙◌}
use mathlib.Core.Bool.{Bool, true, false, not, cond, true≢false}
use mathlib.Core.List.{List}
use borrow.Author.Tests.{eq-eqb, ne_eqb, eqb-true, not-false}
use lib.Dec.{eqb}
use lib.ListN.{length}
use lib.Ieee.{Float}
use Rattle.columns.specs.Columns.{Columns, flat_of}
use Rattle.sheet.specs.declared.Entry.{Entry}
use Rattle.sheet.specs.declared.Refusal.{Refusal}
use Rattle.sheet.specs.Rules.{accepted, of_call, first_broken}
use Rattle.sheet.proofs.Order.{not_zero}
use Rattle.std.specs.Prelude.{Result, Err}
use Rattle.grid_rules.specs.Rules.{refusal17, refusal18, check_grid_of, unless_broken, first_broken as first_of_grid}
use Rattle.plans.specs.Lent.{lent_of}
use Rattle.chain.specs.Chain.{chain_of}
use Rattle.chain.specs.Rules.{refusal9, outcome, refused_answer, ran_outcome}
use Rattle.chain.specs.Columns.{refusal9_columns, columns_outcome, ran_columns}
use Rattle.chain.specs.Grid.{refusal10_with_grid, grid_refusal_of, grid_outcome_of, columns_grid_outcome_of}

-- ---- the refusal

module _ (own : Refusal) (nine : Bool) (velocities : List Float) (marks grid : List ℕ) where
  by-own : (own.number ≡ 0 → ⊥) → grid_refusal_of own nine velocities marks grid ≡ own
  unfolding grid_refusal_of first_broken
  by-own h = rw (ne_eqb own.number 0 h)

  by-nine : own.number ≡ 0 → nine ≡ true → grid_refusal_of own nine velocities marks grid ≡ of_call 9
  unfolding grid_refusal_of first_broken
  by-nine h e = rw (eq-eqb own.number 0 h, e)

  by_ten : own.number ≡ 0 → nine ≡ false → refusal10_with_grid velocities marks ≡ true → grid_refusal_of own nine velocities marks grid ≡ of_call 10
  unfolding grid_refusal_of first_broken
  by_ten h e f = rw (eq-eqb own.number 0 h, e, f)

  module _ (h : own.number ≡ 0) (e : nine ≡ false) (f : refusal10_with_grid velocities marks ≡ false) where
    by-seventeen : refusal17 grid ≡ true → grid_refusal_of own nine velocities marks grid ≡ of_call (check_grid_of grid)
    unfolding grid_refusal_of first_broken check_grid_of first_of_grid
    by-seventeen a = rw (eq-eqb own.number 0 h, e, f, a)

    by-eighteen : refusal17 grid ≡ false → refusal18 grid ≡ true → grid_refusal_of own nine velocities marks grid ≡ of_call (check_grid_of grid)
    unfolding grid_refusal_of first_broken check_grid_of first_of_grid
    by-eighteen a b = rw (eq-eqb own.number 0 h, e, f, a, b)

    by-none : refusal17 grid ≡ false → refusal18 grid ≡ false → grid_refusal_of own nine velocities marks grid ≡ of_call (check_grid_of grid)
    unfolding grid_refusal_of first_broken check_grid_of first_of_grid
    by-none a b = rw (eq-eqb own.number 0 h, e, f, a, b)

    -- the grid's own number, 0 where neither of its rules is broken
    pub by-grid : grid_refusal_of own nine velocities marks grid ≡ of_call (check_grid_of grid)
    by-grid = by-test (refusal17 grid) (refusal18 grid) refl refl
      where
        by-test : (a b : Bool) → refusal17 grid ≡ a → refusal18 grid ≡ b → grid_refusal_of own nine velocities marks grid ≡ of_call (check_grid_of grid)
        by-test true b p q = by-seventeen p
        by-test false true p q = by-eighteen p q
        by-test false false p q = by-none p q

-- no rule broken: not the sheet's own, and not 9
by_the_rules : (own : Refusal) (broken nine ten seventeen eighteen : Bool) → not (eqb own.number 0) ≡ broken
    → (cond broken own (cond nine (of_call 9) (cond ten (of_call 10) (cond seventeen (of_call 17) (cond eighteen (of_call 18) accepted))))).number ≡ 0
    → (own.number ≡ 0) × (nine ≡ false)
by_the_rules own true nine ten seventeen eighteen e h = absurd (true≢false (sym e ∙ ap (λ (n : ℕ). not (eqb n 0)) h))
by_the_rules own false true ten seventeen eighteen e h = absurd (not_zero 8 h)
by_the_rules own false false ten seventeen eighteen e h = (eqb-true _ _ (not-false _ e), refl)

pub grid_kept : (own : Refusal) (nine : Bool) (velocities : List Float) (marks grid : List ℕ) → (grid_refusal_of own nine velocities marks grid).number ≡ 0
    → (own.number ≡ 0) × (nine ≡ false)
unfolding grid_refusal_of first_broken
grid_kept own nine velocities marks grid h = by_the_rules own _ nine _ _ _ refl h

-- a grid that is let through breaks no rule
pub let_through : (n : ℕ) {told : Result Unit ℕ} → told ≡ unless_broken n → ((e : ℕ) → told ≡ Err e → ⊥) → n ≡ 0
let_through n h not-told = by (eqb n 0) refl
  where
    by : (b : Bool) → eqb n 0 ≡ b → n ≡ 0
    by true e = eqb-true n 0 e
    by false e = absurd (not-told n (h ∙ rw e))

-- ---- a flat list

module _ (own : Refusal) (inverse : Bool) (es : List Entry) (l velocities : List Float) (marks grid : List ℕ) where
  abbrev Told : Refusal → Type 0
  Told r = grid_refusal_of own (refusal9 (length l)) velocities marks grid ≡ r

  pub refused-by : (r : Refusal) → Told r → (r.number ≡ 0 → ⊥) → grid_outcome_of own inverse es l velocities marks grid ≡ outcome (refused_answer r) l
  unfolding grid_outcome_of
  refused-by r e h = rw (e, ne_eqb r.number 0 h)

  pub run_by : (r : Refusal) → Told r → r.number ≡ 0
      → grid_outcome_of own inverse es l velocities marks grid ≡ ran_outcome (chain_of inverse (lent_of velocities marks grid) es l)
  unfolding grid_outcome_of
  run_by r e h = rw (e, eq-eqb r.number 0 h)

  pub grid-refused-own : (own.number ≡ 0 → ⊥) → grid_outcome_of own inverse es l velocities marks grid ≡ outcome (refused_answer own) l
  grid-refused-own h = refused-by own (by-own own _ velocities marks grid h) h

  pub grid-refused-9 : own.number ≡ 0 → refusal9 (length l) ≡ true → grid_outcome_of own inverse es l velocities marks grid ≡ outcome (refused_answer (of_call 9)) l
  grid-refused-9 h e = refused-by (of_call 9) (by-nine own _ velocities marks grid h e) (λ z. omega arith)

  pub grid-refused-10 : own.number ≡ 0 → refusal9 (length l) ≡ false → refusal10_with_grid velocities marks ≡ true
      → grid_outcome_of own inverse es l velocities marks grid ≡ outcome (refused_answer (of_call 10)) l
  grid-refused-10 h e f = refused-by (of_call 10) (by_ten own _ velocities marks grid h e f) (λ z. omega arith)

  pub grid-refused : own.number ≡ 0 → refusal9 (length l) ≡ false → refusal10_with_grid velocities marks ≡ false → (check_grid_of grid ≡ 0 → ⊥)
      → grid_outcome_of own inverse es l velocities marks grid ≡ outcome (refused_answer (of_call (check_grid_of grid))) l
  grid-refused h e f g = refused-by (of_call (check_grid_of grid)) (by-grid own _ velocities marks grid h e f) g

  pub grid-run-through : own.number ≡ 0 → refusal9 (length l) ≡ false → refusal10_with_grid velocities marks ≡ false → check_grid_of grid ≡ 0
      → grid_outcome_of own inverse es l velocities marks grid ≡ ran_outcome (chain_of inverse (lent_of velocities marks grid) es l)
  grid-run-through h e f g = run_by (of_call (check_grid_of grid)) (by-grid own _ velocities marks grid h e f) g

-- ---- columns

module _ (own : Refusal) (inverse : Bool) (es : List Entry) (c : Columns) (velocities : List Float) (marks grid : List ℕ) where
  abbrev nine : Bool
  nine = refusal9_columns (length c.x) (length c.y) (length c.z) (length c.t)

  pub columns-refused-by : (r : Refusal) → grid_refusal_of own nine velocities marks grid ≡ r → (r.number ≡ 0 → ⊥)
      → columns_grid_outcome_of own inverse es c velocities marks grid ≡ columns_outcome (refused_answer r) c
  unfolding columns_grid_outcome_of
  columns-refused-by r e h = rw (e, ne_eqb r.number 0 h)

  pub columns-run-by : (r : Refusal) → grid_refusal_of own nine velocities marks grid ≡ r → r.number ≡ 0
      → columns_grid_outcome_of own inverse es c velocities marks grid ≡ ran_columns (chain_of inverse (lent_of velocities marks grid) es (flat_of c.x c.y c.z c.t))
  unfolding columns_grid_outcome_of
  columns-run-by r e h = rw (e, eq-eqb r.number 0 h)

  pub columns-grid-refused-own : (own.number ≡ 0 → ⊥) → columns_grid_outcome_of own inverse es c velocities marks grid ≡ columns_outcome (refused_answer own) c
  columns-grid-refused-own h = columns-refused-by own (by-own own _ velocities marks grid h) h

  pub columns-grid-refused-9 : own.number ≡ 0 → nine ≡ true → columns_grid_outcome_of own inverse es c velocities marks grid ≡ columns_outcome (refused_answer (of_call 9)) c
  columns-grid-refused-9 h e = columns-refused-by (of_call 9) (by-nine own _ velocities marks grid h e) (λ z. omega arith)

  pub columns-grid-refused-10 : own.number ≡ 0 → nine ≡ false → refusal10_with_grid velocities marks ≡ true
      → columns_grid_outcome_of own inverse es c velocities marks grid ≡ columns_outcome (refused_answer (of_call 10)) c
  columns-grid-refused-10 h e f = columns-refused-by (of_call 10) (by_ten own _ velocities marks grid h e f) (λ z. omega arith)

  pub columns-grid-refused : own.number ≡ 0 → nine ≡ false → refusal10_with_grid velocities marks ≡ false → (check_grid_of grid ≡ 0 → ⊥)
      → columns_grid_outcome_of own inverse es c velocities marks grid ≡ columns_outcome (refused_answer (of_call (check_grid_of grid))) c
  columns-grid-refused h e f g = columns-refused-by (of_call (check_grid_of grid)) (by-grid own _ velocities marks grid h e f) g

  pub columns-grid-run-through : own.number ≡ 0 → nine ≡ false → refusal10_with_grid velocities marks ≡ false → check_grid_of grid ≡ 0
      → columns_grid_outcome_of own inverse es c velocities marks grid ≡ ran_columns (chain_of inverse (lent_of velocities marks grid) es (flat_of c.x c.y c.z c.t))
  columns-grid-run-through h e f g = columns-run-by (of_call (check_grid_of grid)) (by-grid own _ velocities marks grid h e f) g
