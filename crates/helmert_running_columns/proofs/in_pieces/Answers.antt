use borrow.Author.Rules.{rules}
use native.Mathlib.Omega.{arith}
use mathlib.Core.Path.{refl}
use Rattle.columns.proofs.Passed.{passed_none, passed_on, passed_as}
use Rattle.helmert_still_columns.proofs.Laws.{passed_through}
use Rattle.helmert_running_columns.proofs.in_pieces.Goals as goal

pub loop-i-init : goal.loop-i-init
loop-i-init c = (c.requires.0, refl, search rules, passed_none _ _ _ _)

pub sixteen-state-requires : goal.sixteen-state-requires
sixteen-state-requires c = (c.loop-i.invariant.0, omega (arith, c.worth.ensures c.if-worth.true, c.loop-i.invariant.0.2), c.requires.1)

pub loop-i-smaller-then-worth : goal.loop-i-smaller-then-worth
loop-i-smaller-then-worth c = let l = c.loop-i in omega (arith, l.invariant.1, c.loop-i-test.true)

pub loop-i-preserved-then-worth : goal.loop-i-preserved-then-worth
loop-i-preserved-then-worth c = let l = c.loop-i in ((search rules, search rules, search rules), search rules, search (rules, c.worth.ensures c.if-worth.true, l.invariant.0.2), passed_on l.invariant.3 c.sixteen-state.ensures)

pub one_time-w-requires : goal.one_time-w-requires
one_time-w-requires c = (c.loop-i.invariant.0, omega (arith, c.loop-i-test.true), c.requires.1)

pub loop-i-smaller : goal.loop-i-smaller
loop-i-smaller c = let l = c.loop-i in let w = c.one_time-w.ensures in omega (arith, w.0, w.1, l.invariant.1, c.loop-i-test.true)

pub loop-i-preserved : goal.loop-i-preserved
loop-i-preserved c = let l = c.loop-i in let w = c.one_time-w.ensures in ((search rules, search rules, search rules), search rules, search (rules, w.1), passed_as refl refl (omega (arith, w.0)) (passed_on l.invariant.3 w.2))

pub returns : goal.returns
returns c = let l = c.loop-i in passed_through _ _ _ _ c.requires.0 (omega (arith, c.loop-i-test.false, l.invariant.1)) l.invariant.3
