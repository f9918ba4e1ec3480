-- Invariant: what the search finds from the first number on is what it finds from number k on, of
-- the n - k that are left. A turn passes a finite number (`past_finite`). Assumes nothing.
use mathlib.Core.Path.{◌≡◌}
use Prim.Native.Nat.{◌-◌}
use Rattle.grid_rules.specs.Layout.{numbers_of}
use Rattle.grid_lines.specs.Lines.{not_finite_from}
use Rattle.grid_lines.proofs.first_not_finite.Given as goal

abbrev pub invariant-loop-k : goal.invariant-loop-k
invariant-loop-k l = (l.n ≡ numbers_of l.g) × (not_finite_from l.g (numbers_of l.g) 0 ≡ not_finite_from l.g (l.n - l.k) l.k)
