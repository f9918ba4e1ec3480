-- Invariant: `before` tells whether a step before i is a deformation step (`has_deformation`), and
-- the first refusal by rule 11 among the n steps is the first among the steps from i on
-- (`elevens`). A turn at a second deformation step returns that refusal (`elevens-off`); any other
-- goes on (`elevens-on`) and brings `before` up to i + 1 (`before-next`). With no step left nothing
-- is refused (`elevens-end`). Assumes nothing.
use mathlib.Core.Path.{◌≡◌}
use Prim.Native.Nat.{◌-◌, ◌≤◌}
use Rattle.sheet.specs.Rules.{has_deformation, elevens, first_broken}
use Rattle.sheet.specs.Layout.{kind_at}
use Rattle.sheet.proofs.check_kinds.Given as goal

abbrev pub invariant-loop-i : goal.invariant-loop-i
invariant-loop-i l = (l.i ≤ l.n) × ((l.before ≡ has_deformation (kind_at l.s) l.i) × (first_broken (elevens (kind_at l.s) l.n 0) ≡ first_broken (elevens (kind_at l.s) (l.n - l.i) l.i)))
