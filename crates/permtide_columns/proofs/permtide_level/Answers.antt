use borrow.Author.Rules.{rules}
use Prim.Native.Nat.{◌*◌, ◌≤◌}
use native.Mathlib.Omega.{arith}
use mathlib.Core.Path.{refl, ap, ◌∙◌}
use lib.ListN.{length}
use Rattle.lists.specs.Run.{Turns, ran_of}
use Rattle.helmert.specs.declared.State.{State}
use Rattle.helmert.specs.Turns.{no_state}
use Rattle.columns.specs.Columns.{flat_of}
use Rattle.columns.proofs.Laws.{flat-length}
use Rattle.columns.proofs.Passed.{passed_on, passed_as, passed-list}
use Rattle.permtide_columns.proofs.Rows.{either_turns}
use Rattle.permtide_columns.proofs.permtide_level.Goals as goal

pub loop-block-preserved : goal.loop-block-preserved
loop-block-preserved c =
    ((search rules, search rules, search rules), passed_as (omega arith) refl (omega arith) (passed_on c.loop-block.invariant.1 c.permtide_sixteen.ensures))

pub loop-i-preserved : goal.loop-i-preserved
loop-i-preserved c =
    ((search rules, search rules, search rules), passed_on c.loop-i.invariant.1 c.permtide_row.ensures)

pub returns : goal.returns
returns c =
    let a = c.args in
    let l = c.loop-i in
    let end : length (flat_of a.x.now a.y.now l.z a.t.now) ≤ 4 * l.i = rw (flat-length a.x.now a.y.now l.z a.t.now l.invariant.0) (omega (arith, c.loop-i-test.false)) in
    passed-list l.i end l.invariant.1
    ∙ ap (λ (f : Turns State). ran_of f 0 no_state (flat_of a.x.now a.y.now a.z.now a.t.now)) (either_turns a.op a.inverse)
