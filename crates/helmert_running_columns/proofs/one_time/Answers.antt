use borrow.Author.Rules.{rules}
use Prim.Native.Nat.{◌*◌, ◌<◌}
use native.Mathlib.Omega.{arith}
use mathlib.Core.Path.{◌≡◌, refl, ap, ◌∙◌}
use mathlib.Core.Bool.{false}
use lib.ListN.{length}
use Rattle.lists.specs.Flat.{tuple_at}
use Rattle.columns.specs.Columns.{flat_of}
use Rattle.columns.proofs.Laws.{room, row-time}
use Rattle.columns.proofs.Passed.{passed_none, passed_on, passed_as}
use Rattle.rotation.specs.declared.Vec3.{Vec3}
use Rattle.rotation.specs.Matrix.{rotation_matrix_of}
use Rattle.helmert_still_columns.proofs.Laws.{row-applied, turned-row}
use Rattle.helmert_running_columns.proofs.Laws.{met-row, same-time}
use Rattle.helmert_running_columns.proofs.one_time.Goals as goal

pub loop-j-init : goal.loop-j-init
loop-j-init c = ((search (rules, c.requires.0.0), search (rules, c.requires.0.1), search (rules, c.requires.0.2)), refl, search rules, c.run_end-end.ensures.0, passed_as refl refl (omega arith) (passed_none _ _ _ _))

pub loop-j-preserved : goal.loop-j-preserved
loop-j-preserved c =
    let a = c.args in
    let m = c.rotation_matrix-m.ensures ∙ ap (λ (q : Vec3). rotation_matrix_of q false a.shift.position_vector) c.rotation_at.ensures in
    let l = c.loop-j in
    let r = c.run_end-end.ensures in
    let before : l.j < c.run_end-end.result = omega (arith, c.loop-j-test.true) in
    let inside : l.j < length l.x = omega (arith, before, r.1 (omega (arith, c.requires.1, c.requires.0.2)), l.invariant.0.2) in
    let fits = room l.x l.y l.z a.t.now l.invariant.0 l.j inside in
    let alike = same-time a.shift a.inverse c.requires.2 a.t.now _ _ c.scale_at-s.ensures m r.2 in (
      (search rules, search rules, search rules),
      search rules,
      omega (arith, l.invariant.2),
      omega (arith, before),
      passed_as refl refl (omega (arith, l.invariant.2)) (passed_on l.invariant.4 (turned-row l.j fits (alike l.j l.invariant.2 before (tuple_at (flat_of l.x l.y l.z a.t.now) (4 * l.j)) (row-time l.x l.y l.z a.t.now l.invariant.0 l.j inside)) (row-applied l.x l.y l.z a.t.now l.invariant.0 l.j inside a.inverse _ _ _ _ c.row-in-loop-j.ensures))),
    )

pub returns : goal.returns
returns c =
    let a = c.args in
    let m = c.rotation_matrix-m.ensures ∙ ap (λ (q : Vec3). rotation_matrix_of q false a.shift.position_vector) c.rotation_at.ensures in
    let l = c.loop-j in
    let r = c.run_end-end.ensures in
    let all : l.j ≡ c.run_end-end.result = omega (arith, c.loop-j-test.false, l.invariant.3) in
    let first = met-row a.shift a.inverse c.requires.2 _ _ _ _ c.requires.0 a.i c.requires.1 c.next-now.ensures c.scale_at-s.ensures m (row-applied _ _ _ _ c.requires.0 a.i c.requires.1 a.inverse _ _ _ _ c.row.ensures) in
    (omega (arith, r.0), omega (arith, r.1 (omega (arith, c.requires.1, c.requires.0.2)), c.requires.0.2), passed_as all refl (omega (arith, all, r.0)) (passed_on first l.invariant.4))
