-- The search for the first number not finite, a number at a time. Assumes nothing.
use Prim.Native.Nat.{ℕ, suc, ◌+◌, ◌-◌, ◌≤◌, ◌<◌}
use native.Mathlib.Omega.{arith}
use mathlib.Core.Path.{◌≡◌, sym, ap, ◌∙◌}
use mathlib.Core.Bool.{true, false}
use mathlib.Core.List.{List}
use lib.Ieee.Scale.{finite}
use Rattle.grid_rules.specs.Layout.{number_of}
use Rattle.grid_lines.specs.Lines.{not_finite_from}

-- with one more number left
left_next : (n k : ℕ) → k < n → n - k ≡ suc (n - (k + 1))
left_next n k h = omega arith

-- past a finite number
pub past_finite : (s : List ℕ) (n k : ℕ) → k < n → finite (number_of s k) ≡ true → not_finite_from s (n - k) k ≡ not_finite_from s (n - (k + 1)) (k + 1)
unfolding not_finite_from
past_finite s n k h e = ap (λ (m : ℕ). not_finite_from s m k) (left_next n k h) ∙ rw e

-- at one that is not
pub at_not_finite : (s : List ℕ) (n k : ℕ) → k < n → finite (number_of s k) ≡ false → k ≡ not_finite_from s (n - k) k
unfolding not_finite_from
at_not_finite s n k h e = sym (ap (λ (m : ℕ). not_finite_from s m k) (left_next n k h) ∙ rw e)

-- at the end
pub at_end : (s : List ℕ) (n k : ℕ) → n ≤ k → k ≡ not_finite_from s (n - k) k
unfolding not_finite_from
at_end s n k h = sym (ap (λ (m : ℕ). not_finite_from s m k) (none n k h))
  where
    none : (n k : ℕ) → n ≤ k → n - k ≡ 0
    none n k h = omega arith
