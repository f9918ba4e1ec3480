-- One case for each way through the tests, in the rules' order; the grid's own number is the last
-- (`by-grid`). Assumes nothing.
use mathlib.Core.Path.{◌≡◌, sym, ap, ◌∙◌}
use borrow.Author.Tests.{eq-eqb}
use Rattle.std.specs.Prelude.{Err}
use Rattle.grid_rules.specs.Rules.{check_grid_of}
use Rattle.sheet.specs.Rules.{of_call, refusal_of, first_broken, unless}
use Rattle.sheet.proofs.Unless.{accepts, refuses, passed, failed, hands_on, first_refuses}
use Rattle.grid_rules.proofs.Laws.{unless_err, unless_not_0}
use Rattle.chain.specs.Grid.{grid_refusal_of}
use Rattle.chain.proofs.Grid.{by-grid, let_through}
use Rattle.chain.proofs.judge_grid.Goals as goal

pub returns-in_err-check : goal.returns-in_err-check
unfolding grid_refusal_of
returns-in_err-check c =
    let o = c.check.ensures in
    let err = c.in_err-check.was in
    hands_on _ _ o err c.from_residual.ensures.1 ∙ sym (first_refuses _ _ tt (failed _ _ o err))

pub returns-then-nine : goal.returns-then-nine
unfolding grid_refusal_of unless first_broken
returns-then-nine c =
    let own : (refusal_of c.args.s.now).number ≡ 0 = passed _ _ c.check.ensures c.in_ok-check.was in
    rw (c.of_call.ensures, eq-eqb (refusal_of c.args.s.now).number 0 own, c.if-nine.true)

pub returns-then-lent_broken : goal.returns-then-lent_broken
unfolding grid_refusal_of unless first_broken
returns-then-lent_broken c =
    let ten = sym c.lent_broken.ensures ∙ c.if-lent_broken.true in
    let own : (refusal_of c.args.s.now).number ≡ 0 = passed _ _ c.check.ensures c.in_ok-check.was in
    rw (c.of_call-then-lent_broken.ensures, eq-eqb (refusal_of c.args.s.now).number 0 own, c.if-nine.false, ten)

pub returns-in-Err : goal.returns-in-Err
returns-in-Err c =
    let own = passed _ _ c.check.ensures c.in_ok-check.was in
    let ten = sym c.lent_broken.ensures ∙ c.if-lent_broken.false in
    let g = c.check_grid.ensures in
    let err = c.in-Err.is in
    let a = c.args in
    let same = by-grid (refusal_of a.s.now) a.nine a.velocities.now a.marks.now a.grid.now own c.if-nine.false ten in
    rw same (ap Err (c.of_call-in-Err.ensures ∙ ap of_call (unless_err _ g err)) ∙ sym (refuses (of_call (check_grid_of a.grid.now)) tt (unless_not_0 _ g err)))

pub returns : goal.returns
returns c =
    let own : (refusal_of c.args.s.now).number ≡ 0 = passed _ _ c.check.ensures c.in_ok-check.was in
    let ten = sym c.lent_broken.ensures ∙ c.if-lent_broken.false in
    let a = c.args in
    let same = by-grid (refusal_of a.s.now) a.nine a.velocities.now a.marks.now a.grid.now own c.if-nine.false ten in
    rw same (sym (accepts (of_call (check_grid_of a.grid.now)) tt (let_through _ c.check_grid.ensures c.in_default.not-Err)))
