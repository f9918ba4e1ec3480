use borrow.Author.Rules.{rules}
use Prim.Native.Nat.{◌<◌}
use native.Mathlib.Omega.{arith}
use mathlib.Core.Path.{refl}
use lib.ListN.{length}
use Rattle.columns.proofs.Laws.{room}
use Rattle.columns.proofs.Passed.{passed_none, passed_on}
use Rattle.helmert_still_columns.proofs.Laws.{row_put, turned-row, passed_through}
use Rattle.helmert_still_columns.proofs.rows.Goals as goal

pub loop-i-init : goal.loop-i-init
loop-i-init g c = (c.requires.level, refl, λ f timed told. passed_none _ _ _ _)

pub loop-i-preserved : goal.loop-i-preserved
loop-i-preserved g c =
    let l = c.loop-i in
    let inside : l.i < length l.x = omega (arith, c.loop-i-test.true, l.invariant.1) in (
      (search rules, search rules, search rules),
      search rules,
      λ f timed told.
          passed_on (l.invariant.2 f timed told)
          (turned-row l.i (room _ _ _ _ l.invariant.0 l.i inside) refl
          (row_put l.x l.y l.z c.args.t.now l.invariant.0 l.i inside f timed (told _ _ c.to-w.ensures))),
    )

pub returns : goal.returns
returns g c f timed told =
    let l = c.loop-i in
    (passed_through _ _ _ _ c.requires.level (omega (arith, c.loop-i-test.false, l.invariant.1)) (l.invariant.2 f timed told)).0
