-- Invariant: the rows before i are the list's (`Copied`). A turn copies one tuple more
-- (`copied_again`). Assumes nothing.
use Prim.Native.Nat.{◌*◌}
use mathlib.Core.Path.{◌≡◌}
use lib.ListN.{length}
use Rattle.columns.specs.Columns.{Level, flat_of}
use Rattle.columns.proofs.Laws.{Copied}
use Rattle.columns.proofs.into_columns.Given as goal

abbrev pub invariant-loop-i : goal.invariant-loop-i
invariant-loop-i l = Level l.x l.y l.z l.t × (length l.x ≡ length l.initial.x) × Copied l.list (4 * l.i) (flat_of l.x l.y l.z l.t)
