-- All rows go through one T, S and matrix, about the pivot where the shift has one, which is what
-- the step makes of every tuple. Columns of unequal length stand for no tuple (`flat-uneven`),
-- before and after. Assumes nothing.
use borrow.Author.Rules.{rules}
use mathlib.Core.Path.{sym, ◌∙◌}
use Rattle.columns.proofs.Laws.{level_told, flat-uneven}
use Rattle.helmert.specs.Apply.{apply_of, apply_about_of}
use Rattle.helmert.specs.Modes.{fixed_step_of}
use Rattle.helmert_still_columns.proofs.Laws.{apply_time, about_time}
use Rattle.helmert_still_columns.proofs.run_still.Goals as goal

pub rows-requires-clause-level : goal.rows-requires-clause-level
rows-requires-clause-level c = level_told _ _ _ _ (sym c.level.ensures ∙ c.if-level.true)

pub rows-requires-else-shift-clause-level : goal.rows-requires-else-shift-clause-level
rows-requires-else-shift-clause-level c = level_told _ _ _ _ (sym c.level.ensures ∙ c.if-level.true)

pub returns-then-shift : goal.returns-then-shift
unfolding fixed_step_of
returns-then-shift c =
    let a = c.args in
    let p = a.shift.parameters in
    let m = c.rotation_matrix-m.result in
    let all = c.rows.ensures (apply_about_of a.inverse a.shift.pivot p.t p.s a.shift.rotated m) (about_time a.inverse a.shift.pivot p.t p.s a.shift.rotated m) (λ v w post. search (rules, post)) in
    rw c.if-shift.true (rw c.rotation_matrix-m.ensures at all)

pub returns-else-shift : goal.returns-else-shift
unfolding fixed_step_of
returns-else-shift c =
    let a = c.args in
    let p = a.shift.parameters in
    let m = c.rotation_matrix-m.result in
    let all = c.rows-else-shift.ensures (apply_of a.inverse p.t p.s a.shift.rotated m) (apply_time a.inverse p.t p.s a.shift.rotated m) (λ v w post. search (rules, post)) in
    rw c.if-shift.false (rw c.rotation_matrix-m.ensures at all)

pub returns-else-level : goal.returns-else-level
returns-else-level c = rw (flat-uneven _ _ _ _ (sym c.level.ensures ∙ c.if-level.false))
