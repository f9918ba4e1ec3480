use Prim.Native.Nat.{◌*◌, ◌≤◌}
use native.Mathlib.Omega.{arith}
use lib.ListN.{length}
use Rattle.columns.specs.Columns.{flat_of}
use Rattle.columns.proofs.Laws.{flat-length}
use Rattle.columns.proofs.Passed.{passed-list, passed-count}
use Rattle.fix_columns.proofs.run_level.Goals as goal

pub returns : goal.returns
returns g c =
    let l = c.loop-i in
    let end : length (flat_of l.x l.y l.z l.t) ≤ 4 * l.i = rw (flat-length l.x l.y l.z l.t l.invariant.0) (omega (arith, c.loop-i-test.false, l.auto.x)) in
    (passed-list l.i end l.invariant.1, passed-count l.i end l.invariant.1, passed-count l.i end l.invariant.2)
