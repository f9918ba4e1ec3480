use borrow.Author.Rules.{rules}
use Prim.Native.Nat.{◌+◌, ◌<◌}
use native.Mathlib.Omega.{arith}
use mathlib.Core.Path.{refl}
use lib.ListN.{length}
use Rattle.columns.proofs.Passed.{passed_none, passed_on, passed_as}
use Rattle.helmert_still_columns.proofs.Laws.{row-applied}
use Rattle.helmert_running_columns.proofs.Laws.{lane_row, lanes_at}
use Rattle.helmert_running_columns.proofs.lanes.Goals as goal

pub loop-j-init : goal.loop-j-init
loop-j-init c = (c.requires.0, refl, search rules, λ from h. passed_as (omega arith) refl refl (passed_none _ _ _ _))

pub overflow_add-k : goal.overflow_add-k
overflow_add-k c = omega (arith, c.loop-j-test.true, c.requires.1, c.loop-j.invariant.1)

pub loop-j-preserved : goal.loop-j-preserved
loop-j-preserved c =
    let l = c.loop-j in
    let a = c.args in
    let few : l.j < 16 = omega (arith, c.loop-j-test.true) in
    let inside : a.i + l.j < length l.x = omega (arith, few, c.requires.1, l.invariant.1) in
    ((search rules, search rules, search rules), search rules, omega (arith, few), λ from h. passed_on (l.invariant.3 from h) (lane_row a.shift from a.t.now a.i a.inverse c.requires.3 l.x l.y l.z l.invariant.0 h l.j few inside c.scale_at-s.ensures (rw (← c.rotation_at.ensures) c.rotation_matrix-m.ensures) (row-applied l.x l.y l.z a.t.now l.invariant.0 (a.i + l.j) inside a.inverse _ _ _ _ c.row.ensures)))

pub returns : goal.returns
returns c = let l = c.loop-j in lanes_at _ _ _ _ (search rules) (l.invariant.3 c.args.from c.requires.2)
