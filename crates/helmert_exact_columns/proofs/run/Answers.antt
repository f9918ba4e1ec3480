use native.Mathlib.Omega.{arith}
use mathlib.Core.Path.{refl, sym, ◌∙◌}
use Rattle.columns.proofs.Laws.{level_told, flat-uneven}
use Rattle.columns.proofs.Passed.{passed_none, passed_on, passed_as}
use Rattle.helmert_still_columns.proofs.Laws.{passed_through}
use Rattle.helmert_exact_columns.proofs.run.Goals as goal

pub returns-then-not-level : goal.returns-then-not-level
returns-then-not-level c = let none = flat-uneven _ _ _ _ (sym c.level.ensures ∙ c.if-not-level.true) in (rw none, rw none)

pub loop-i-init : goal.loop-i-init
loop-i-init c = (level_told _ _ _ _ (sym c.level.ensures ∙ c.if-not-level.false), refl, omega arith, passed_none _ _ _ _)

pub sixteen-state-requires : goal.sixteen-state-requires
sixteen-state-requires c =
    let l = c.loop-i in
    let w = c.worth.ensures c.if-worth.true in
    (l.invariant.0, omega (arith, w.1, l.invariant.0.2), w.0)

pub loop-i-smaller-then-worth : goal.loop-i-smaller-then-worth
loop-i-smaller-then-worth c = omega (arith, c.loop-i-test.true, c.loop-i.invariant.1)

pub loop-i-preserved-then-worth : goal.loop-i-preserved-then-worth
loop-i-preserved-then-worth c =
    let l = c.loop-i in
    let w = c.worth.ensures c.if-worth.true in (
      (omega (arith, l.invariant.0.0), omega (arith, l.invariant.0.1), omega (arith, l.invariant.0.2)),
      omega (arith, l.invariant.1),
      omega (arith, w.1, l.invariant.0.2),
      passed_on l.invariant.3 c.sixteen-state.ensures,
    )

pub one_time-w-requires : goal.one_time-w-requires
one_time-w-requires c = (c.loop-i.invariant.0, omega (arith, c.loop-i-test.true))

pub loop-i-smaller : goal.loop-i-smaller
loop-i-smaller c = let w = c.one_time-w.ensures in omega (arith, w.0, w.1, c.loop-i.invariant.1)

pub loop-i-preserved : goal.loop-i-preserved
loop-i-preserved c =
    let l = c.loop-i in
    let w = c.one_time-w.ensures in (
      (omega (arith, l.invariant.0.0), omega (arith, l.invariant.0.1), omega (arith, l.invariant.0.2)),
      omega (arith, l.invariant.1),
      omega (arith, w.1),
      passed_as refl refl (omega (arith, w.0)) (passed_on l.invariant.3 w.2),
    )

pub shape_of-y : goal.shape_of-y
shape_of-y c = let l = c.loop-i in omega (arith, (level_told _ _ _ _ (sym c.level.ensures ∙ c.if-not-level.false)).0, l.invariant.0.0, l.invariant.1)

pub shape_of-z : goal.shape_of-z
shape_of-z c = let l = c.loop-i in omega (arith, (level_told _ _ _ _ (sym c.level.ensures ∙ c.if-not-level.false)).1, l.invariant.0.1, l.invariant.1)

pub returns : goal.returns
returns c =
    let l = c.loop-i in
    let level = level_told _ _ _ _ (sym c.level.ensures ∙ c.if-not-level.false) in
    passed_through _ _ _ _ level (omega (arith, c.loop-i-test.false, l.invariant.1)) l.invariant.3
