-- Invariant: found says whether one of the first i steps is a deformation step (`has_deformation`),
-- and i is at most n. A turn asks whether the kind of step i of the record (`kind_of`, `kind_in`)
-- is 5, and found then speaks of one step more (`before-next`). The loop ends at i = n, so found is
-- the answer for all n steps. Assumes nothing.
use Prim.Native.Nat.{◌≤◌}
use mathlib.Core.Path.{◌≡◌}
use Rattle.sheet.specs.Layout.{kind_in}
use Rattle.sheet.specs.Rules.{has_deformation}
use Rattle.chain_record.proofs.deforms_record.Given as goal

abbrev pub invariant-loop-i : goal.invariant-loop-i
invariant-loop-i l = (l.i ≤ l.n) × (l.found ≡ has_deformation (kind_in l.kept) l.i)
