-- Where redoing starts, case by case. Assumes nothing.
use Prim.Native.Nat.{ℕ, zero, suc, ◌*◌, ◌-◌}
use native.Mathlib.Omega.{arith}
use mathlib.Core.Path.{◌≡◌, refl}
use mathlib.Core.Bool.{true, false, not, ◌||◌}
use mathlib.Core.List.{List}
use lib.Dec.{eqb}
use lib.Ieee.{Float}
use borrow.Author.Tests.{ne_eqb}
use Rattle.std.proofs.lemmas.Bool.{not-true, not-false, true≢false}
use Rattle.helmert.specs.declared.Shift.{Shift}
use Rattle.helmert.specs.Modes.{start_of, is_running_of}
use Rattle.lists.specs.Flat.{tuple_at}
use Rattle.stretch.specs.Kept.{held_of, before_of}

module _ (shift : Shift) (track : List Float) (index : ℕ) where
  pub before-first : index ≡ 0 → before_of shift track index ≡ start_of shift
  unfolding before_of
  before-first e = rw e

pub before_running : (shift : Shift) (track : List Float) (index : ℕ) → (index ≡ 0 → ⊥) → is_running_of shift ≡ true
    → before_of shift track index ≡ held_of (tuple_at track (4 * (index - 1)))
unfolding before_of
before_running shift track zero h e = absurd (h refl)
before_running shift track (suc k) h e = let d : suc k - 1 ≡ k = omega arith in rw (d, e)

pub before_else : (shift : Shift) (track : List Float) (index : ℕ) → is_running_of shift ≡ false → before_of shift track index ≡ start_of shift
unfolding before_of
before_else shift track zero e = refl
before_else shift track (suc k) e = rw e

-- ---- the same by the one test that the code makes

later : (k : ℕ) → eqb (suc k) 0 ≡ false
later k = ne_eqb (suc k) 0 (λ z. omega (arith, z))

pub before_start : (shift : Shift) (track : List Float) (index : ℕ) → eqb index 0 || not (is_running_of shift) ≡ true
    → before_of shift track index ≡ start_of shift
before_start shift track zero e = before-first shift track zero refl
before_start shift track (suc k) e = before_else shift track (suc k) (not-true _ (rw (later k) at e))

pub before_kept : (shift : Shift) (track : List Float) (index : ℕ) → eqb index 0 || not (is_running_of shift) ≡ false
    → before_of shift track index ≡ held_of (tuple_at track (4 * (index - 1)))
before_kept shift track zero e = absurd (true≢false e)
before_kept shift track (suc k) e = before_running shift track (suc k) (λ z. omega (arith, z)) (not-false _ (rw (later k) at e))
