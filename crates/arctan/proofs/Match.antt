-- What the last arm of a `match` on a number knows: it is none of the numbers of the arms before.
-- Assumes nothing.
use mathlib.Core.Path.{◌≡◌}
use Prim.Native.Nat.{ℕ, zero, suc, ◌≤◌}
use native.Mathlib.Omega.{arith}

abbrev pub Missed : ℕ → ℕ → Type 0
Missed zero i = Unit {0}
Missed (suc n) i = Missed n i × (i ≡ n → ⊥)

further : (n i : ℕ) → n ≤ i → (i ≡ n → ⊥) → suc n ≤ i
further n i h g = omega arith

pub beyond : (n i : ℕ) → Missed n i → n ≤ i
beyond zero i m = omega arith
beyond (suc n) i m = further n i (beyond n i m.0) m.1
