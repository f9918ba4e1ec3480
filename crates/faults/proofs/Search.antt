-- The search, entry by entry. Assumes nothing.
use mathlib.Core.Path.{◌≡◌, refl}
use mathlib.Core.Bool.{Bool, true, false, cond}
use lib.Dec.{eqb}
use native.Mathlib.Omega.{arith}
use Rattle.std.specs.declared.option.Option.TheVariants.{Some, None}
use Prim.Native.Nat.{ℕ, suc, ◌+◌, ◌*◌}
use mathlib.Core.List.{List}
use borrow.Author.Tests.{eq-eqb, ne_eqb, eqb-true, eqb-false}
use Rattle.faults.specs.Faults.{entry_fault, some_fault, first_fault}

-- what the entry's answer says of its word
pub some_is : (n k : ℕ) → some_fault n ≡ Some k → (n ≡ k) × (n ≡ 16 → ⊥)
some_is n k e = by (eqb n 16) refl e
  where
    by : (b : Bool) → eqb n 16 ≡ b → cond b None (Some n) ≡ Some k → (n ≡ k) × (n ≡ 16 → ⊥)
    by true t e = let z : ◌≡◌ {A = ℕ} 0 1 = cc in absurd (omega arith)
    by false t e = (cc, eqb-false n 16 t)

pub none_is : (n : ℕ) → some_fault n ≡ None → n ≡ 16
none_is n e = by (eqb n 16) refl e
  where
    by : (b : Bool) → eqb n 16 ≡ b → cond b None (Some n) ≡ None → n ≡ 16
    by true t e = eqb-true n 16 t
    by false t e = let z : ◌≡◌ {A = ℕ} 0 1 = cc in absurd (omega arith)

pub fault_here : (s : List ℕ) (left n i : ℕ) → left ≡ suc n → (entry_fault s i ≡ 16 → ⊥) → first_fault s left i ≡ 16 + 16 * i + entry_fault s i
unfolding first_fault
fault_here s left n i l h = rw (l, ne_eqb (entry_fault s i) 16 h)

pub fault_later : (s : List ℕ) (left n i : ℕ) → left ≡ suc n → entry_fault s i ≡ 16 → first_fault s left i ≡ first_fault s n (i + 1)
unfolding first_fault
fault_later s left n i l h = rw (l, eq-eqb (entry_fault s i) 16 h)

pub fault_none : (s : List ℕ) (left i : ℕ) → left ≡ 0 → first_fault s left i ≡ 4
unfolding first_fault
fault_none s left i l = rw l
