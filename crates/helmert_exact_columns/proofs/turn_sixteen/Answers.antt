use borrow.Author.Rules.{rules}
use Prim.Native.Nat.{◌+◌, ◌<◌}
use native.Mathlib.Omega.{arith}
use mathlib.Core.Path.{◌≡◌, refl}
use lib.ListN.{length}
use Rattle.columns.proofs.Passed.{passed_none, passed_on, passed_as}
use Rattle.helmert_still_columns.proofs.Laws.{row-applied}
use Rattle.helmert_exact_columns.proofs.Laws.{met-row, sined-matrix, state-more, one_on}
use Rattle.helmert_exact_columns.proofs.turn_sixteen.Goals as goal

pub loop-j-init : goal.loop-j-init
loop-j-init c = (search rules, refl, search rules, refl, passed_as (omega arith) refl refl (passed_none _ _ _ _))

pub overflow_add-k : goal.overflow_add-k
overflow_add-k c =
    omega (arith, c.loop-j-test.true, c.loop-j.invariant.1, c.requires.1)

pub loop-j-preserved : goal.loop-j-preserved
loop-j-preserved c =
    let l = c.loop-j in
    let a = c.args in
    let few : l.j < 16 = omega (arith, c.loop-j-test.true) in
    let inside : a.i + l.j < length l.x = omega (arith, few, c.requires.1, l.invariant.1) in
    let here = c.met-state.ensures in
    let e = state-more a.own a.shift a.from a.t.now a.i l.j l.invariant.3 here in (
      (search rules, search rules, search rules),
      search rules,
      omega (arith, few),
      one_on a.own a.shift a.from a.t.now a.i l.j e,
      passed_as (omega arith) refl refl
          (passed_on l.invariant.4 (met-row a.own a.shift a.inverse l.x l.y l.z a.t.now l.invariant.0 (a.i + l.j) inside here
          (record { scale = c.scale_at-s.ensures; matrix = sined-matrix c.requires.3 c.requires.2 l.j few e c.matrix_at-m.ensures })
          (row-applied l.x l.y l.z a.t.now l.invariant.0 (a.i + l.j) inside a.inverse _ _ _ _ c.row.ensures))),
    )

pub returns : goal.returns
returns c =
    let l = c.loop-j in
    let all : l.j ≡ 16 = search rules in
    passed_as (omega (arith, all)) refl all l.invariant.4
