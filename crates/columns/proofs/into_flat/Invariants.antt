-- Invariant: the tuples before place 4 i are the columns' (`Copied`). A turn copies one row more
-- (`copied_again`). Assumes nothing.
use Prim.Native.Nat.{◌*◌}
use mathlib.Core.Path.{◌≡◌}
use lib.ListN.{length}
use Rattle.columns.specs.Columns.{flat_of}
use Rattle.columns.proofs.Laws.{Copied}
use Rattle.columns.proofs.into_flat.Given as goal

abbrev pub invariant-loop-i : goal.invariant-loop-i
invariant-loop-i l = (length l.list ≡ length l.initial.list) × Copied (flat_of l.x l.y l.z l.t) (4 * l.i) l.list
