-- Invariant: n of the rows before i are such that p holds of them (`Asked`), for any p that tells
-- what each call gives; n is at most i. Assumes nothing.
use Prim.Native.Nat.{◌≤◌}
use mathlib.Core.Path.{◌≡◌}
use mathlib.Core.Bool.{Bool}
use Rattle.tuple.specs.declared.Tuple.{Tuple}
use Rattle.columns.specs.Columns.{flat_of}
use Rattle.reach_columns.proofs.Along.{Asked}
use Rattle.reach_columns.proofs.rows_where.Given as goal

abbrev pub invariant-loop-i : goal.invariant-loop-i
invariant-loop-i g l =
    ((p : Tuple → Bool) → ((v : Tuple) (r : Bool) → goal.P-post g l.holds v r → r ≡ p v) → Asked p (flat_of l.x l.y l.z l.t) l.i l.n)
    × (l.n ≤ l.i)
