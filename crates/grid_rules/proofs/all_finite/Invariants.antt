-- Invariant of the first loop: w lies below -infinity's pattern just where the numbers of the first
-- parts, eight a part, are finite (`finite_to`); of the second: just where the first k numbers are.
-- n is the number of numbers. A turn adds eight (`next_eight_finite`) or one (`one_more_finite`).
-- Assumes nothing.
use Rattle.grid_rules.specs.Patterns.{below_infinity}
use Rattle.grid_rules.specs.Rules.{finite_to}
use Rattle.grid_rules.specs.Layout.{numbers_of}
use mathlib.Core.Path.{◌≡◌}
use Prim.Native.Nat.{◌*◌}
use Rattle.grid_rules.proofs.all_finite.Given as goal

abbrev pub invariant-loop-part : goal.invariant-loop-part
invariant-loop-part l = (l.n ≡ numbers_of l.g) × (below_infinity l.w ≡ finite_to l.g (8 * l.part))

abbrev pub invariant-loop-k : goal.invariant-loop-k
invariant-loop-k l = (l.n ≡ numbers_of l.g) × (below_infinity l.w ≡ finite_to l.g l.k)
