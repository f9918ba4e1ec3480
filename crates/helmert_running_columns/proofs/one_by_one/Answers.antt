use borrow.Author.Rules.{rules}
use Prim.Native.Nat.{◌<◌}
use native.Mathlib.Omega.{arith}
use mathlib.Core.Path.{refl}
use lib.ListN.{length}
use Rattle.columns.proofs.Passed.{passed_none, passed_on}
use Rattle.helmert_still_columns.proofs.Laws.{row-applied, passed_through}
use Rattle.helmert_running_columns.proofs.Laws.{unrotated-row}
use Rattle.helmert_running_columns.proofs.one_by_one.Goals as goal

pub loop-i-init : goal.loop-i-init
loop-i-init c = (c.requires.0, refl, search rules, passed_none _ _ _ _)

pub loop-i-preserved : goal.loop-i-preserved
loop-i-preserved c =
    let a = c.args in
    let l = c.loop-i in
    let inside : l.i < length l.x = omega (arith, c.loop-i-test.true) in (
      (search rules, search rules, search rules),
      search rules,
      search rules,
      passed_on l.invariant.3
          (unrotated-row a.shift a.inverse c.requires.1 l.x l.y l.z a.t.now l.invariant.0 l.i inside
          c.rotation_matrix-m.result c.next-state.ensures c.scale_at-s.ensures (row-applied l.x l.y l.z a.t.now l.invariant.0 l.i inside a.inverse _ _ _ _ c.row.ensures)),
    )

pub returns : goal.returns
returns c = let l = c.loop-i in passed_through _ _ _ _ c.requires.0 (omega (arith, c.loop-i-test.false, l.invariant.1)) l.invariant.3
