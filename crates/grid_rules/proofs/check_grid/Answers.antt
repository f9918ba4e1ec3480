-- Each return by the tests that led there. Assumes nothing.
use Rattle.grid_rules.specs.Rules.{refusal17, refusal18, check_grid_of, first_broken}
use borrow.Author.Tests.{not-true, not-false}
use mathlib.Core.Path.{sym, ◌∙◌}
use Rattle.grid_rules.proofs.check_grid.Goals as goal

pub returns-then-not-laid_out : goal.returns-then-not-laid_out
unfolding check_grid_of first_broken
returns-then-not-laid_out c = rw (not-false (refusal17 c.args.g.now) (sym c.laid_out.ensures ∙ c.if-not-laid_out.true))

pub returns-then-not-numbers_in_rule : goal.returns-then-not-numbers_in_rule
unfolding check_grid_of first_broken
returns-then-not-numbers_in_rule c = rw (not-true (refusal17 c.args.g.now) (sym c.laid_out.ensures ∙ c.if-not-laid_out.false), not-false (refusal18 c.args.g.now) (sym c.numbers_in_rule.ensures ∙ c.if-not-numbers_in_rule.true))

pub returns : goal.returns
unfolding check_grid_of first_broken
returns c = rw (not-true (refusal17 c.args.g.now) (sym c.laid_out.ensures ∙ c.if-not-laid_out.false), not-true (refusal18 c.args.g.now) (sym c.numbers_in_rule.ensures ∙ c.if-not-numbers_in_rule.false))
