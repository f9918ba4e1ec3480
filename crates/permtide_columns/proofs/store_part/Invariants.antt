-- Invariant: the first j numbers of the block stand in the column from index i on (`part_put`).
-- Assumes nothing.
use Prim.Native.Nat.{◌≤◌}
use mathlib.Core.Path.{◌≡◌}
use lib.ListN.{length}
use Rattle.permtide_columns.specs.Heights.{part_put}
use Rattle.permtide_columns.proofs.store_part.Given as goal

abbrev pub invariant-loop-j : goal.invariant-loop-j
invariant-loop-j l = (length l.column ≡ length l.initial.column) × (l.j ≤ 16) × (l.column ≡ part_put l.initial.column l.i l.b l.j)
