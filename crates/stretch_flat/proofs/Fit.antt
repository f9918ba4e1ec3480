-- What the public functions do where the three lists fit together, and where they do not. Working
-- definition, which no promise cites: `Fit`. Assumes nothing.
use Prim.Native.Nat.{ℕ, ◌+◌, ◌*◌, ◌/◌, ◌%◌, ◌≤◌, ◌<◌}
use native.Mathlib.Omega.{arith}
use mathlib.Core.Bool.{Bool, true, false, ◌&&◌}
use mathlib.Core.Path.{◌≡◌}
use lib.Dec.{eqb, ltb}
use lib.ListN.{length}
use borrow.Author.Tests.{eqb-true, eq-eqb, ltb-true, lt-ltb}
use Rattle.tuple.specs.declared.Tuple.{Tuple}
use Rattle.helmert.specs.declared.Shift.{Shift}
use Rattle.stretch.specs.Kept.{Kept, redone_of, fit_of, fitting, fresh_of, fresh_run_of, corrected_of, put_right_of}
use Rattle.stretch.proofs.Data.{and_true}

-- ---- the test

pub record Fit (list results track : ℕ) : Type 0 where
  pub whole : list % 4 ≡ 0
  pub long-results : results ≡ list
  pub long-track : track ≡ list

pub fit : (list results track : ℕ) → fit_of list results track ≡ true → Fit list results track
unfolding fit_of
fit list results track e =
    let h = and_true (eqb (list % 4) 0 && eqb results list) (eqb track list) e in
    let k = and_true (eqb (list % 4) 0) (eqb results list) h.0 in
    record { whole = eqb-true _ _ k.0; long-results = eqb-true _ _ k.1; long-track = eqb-true _ _ h.1 }

pub fit_told : (list results track : ℕ) → list % 4 ≡ 0 → results ≡ list → track ≡ list → fit_of list results track ≡ true
unfolding fit_of
fit_told list results track w r t = rw (eq-eqb _ _ w, eq-eqb _ _ r, eq-eqb _ _ t)

-- ---- a fresh run

module _ (shift : Shift) (inverse : Bool) (old : Kept) where
  pub fresh-fits : fitting old ≡ true → fresh_run_of shift inverse old ≡ fresh_of shift inverse old.list
  unfolding fresh_run_of
  fresh-fits e = rw e

  pub fresh-unfit : fitting old ≡ false → fresh_run_of shift inverse old ≡ old
  unfolding fresh_run_of
  fresh-unfit e = rw e

-- ---- a correction

module _ (shift : Shift) (inverse : Bool) (old : Kept) (index : ℕ) (fix : Tuple) where
  abbrev there : Bool
  there = fitting old && ltb index (length old.list / 4)

  pub right_there : there ≡ true → put_right_of shift inverse old index fix ≡ corrected_of shift inverse old index fix
  unfolding put_right_of
  right_there e = rw e

  pub right-nowhere : there ≡ false → put_right_of shift inverse old index fix ≡ redone_of 0 old
  unfolding put_right_of
  right-nowhere e = rw e

  pub right-fits : fitting old ≡ true → index < length old.list / 4 → put_right_of shift inverse old index fix ≡ corrected_of shift inverse old index fix
  right-fits e h = right_there (rw (e, lt-ltb _ _ h))

-- a fix stands where the test says so
pub fix-there : (list results track index : ℕ) → fit_of list results track && ltb index (list / 4) ≡ true
    → Fit list results track × (4 * index + 4 ≤ list)
fix-there list results track index e =
    let h = and_true (fit_of list results track) (ltb index (list / 4)) e in
    let b : index < list / 4 = ltb-true _ _ h.1 in
    (fit list results track h.0, omega arith)
