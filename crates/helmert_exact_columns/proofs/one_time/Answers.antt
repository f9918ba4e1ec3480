use Prim.Native.Nat.{◌<◌}
use borrow.Author.Rules.{rules}
use native.Mathlib.Omega.{arith}
use mathlib.Core.Path.{◌≡◌, refl, ap, ◌∙◌}
use lib.ListN.{length}
use Rattle.columns.proofs.Passed.{passed_none, passed_on, passed_as}
use Rattle.rotation.specs.declared.Vec3.{Vec3}
use Rattle.rotation.specs.Matrix.{rotation_matrix_of}
use Rattle.helmert_exact_columns.proofs.Laws.{met-row, same_row}
use Rattle.helmert_still_columns.proofs.Laws.{row-applied}
use Rattle.helmert_exact_columns.proofs.one_time.Goals as goal

pub loop-j-init : goal.loop-j-init
loop-j-init c =
    ((search rules, search rules, search rules), refl, omega arith, c.run_end-end.ensures.0, passed_as refl refl (omega arith) (passed_none _ _ _ _))

pub loop-j-preserved : goal.loop-j-preserved
loop-j-preserved c =
    let a = c.args in
    let l = c.loop-j in
    let r = c.run_end-end.ensures in
    let before : l.j < c.run_end-end.result = omega (arith, c.loop-j-test.true) in
    let inside : l.j < length l.x = omega (arith, before, r.1, l.invariant.0.2) in
    let m = c.rotation_matrix-m.ensures ∙ ap (λ (q : Vec3). rotation_matrix_of q a.shift.exact a.shift.position_vector) c.rotation_at.ensures in (
      (search rules, search rules, search rules),
      search rules,
      omega (arith, l.invariant.2),
      omega (arith, before),
      passed_as refl refl (omega (arith, l.invariant.2))
          (passed_on l.invariant.4 (same_row a.own a.shift a.inverse l.x l.y l.z a.t.now l.invariant.0 l.j inside (r.2 l.j l.invariant.2 before)
          (record { scale = c.scale_at-s.ensures; matrix = m }) (row-applied l.x l.y l.z a.t.now l.invariant.0 l.j inside a.inverse _ _ _ _ c.row-in-loop-j.ensures))),
    )

pub returns : goal.returns
returns c =
    let a = c.args in
    let l = c.loop-j in
    let r = c.run_end-end.ensures in
    let m = c.rotation_matrix-m.ensures ∙ ap (λ (q : Vec3). rotation_matrix_of q a.shift.exact a.shift.position_vector) c.rotation_at.ensures in
    let all : l.j ≡ c.run_end-end.result = omega (arith, c.loop-j-test.false, l.invariant.3) in
    let first = met-row a.own a.shift a.inverse _ _ _ _ c.requires.0 a.i c.requires.1 c.met-state.ensures (record { scale = c.scale_at-s.ensures; matrix = m }) (row-applied _ _ _ _ c.requires.0 a.i c.requires.1 a.inverse _ _ _ _ c.row.ensures) in
    (omega (arith, r.0), omega (arith, r.1, c.requires.0.2), passed_as all refl (omega (arith, all, r.0)) (passed_on first l.invariant.4))
