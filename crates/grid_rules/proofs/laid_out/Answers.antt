-- Each return by the tests that led there. Assumes nothing.
use Rattle.grid_rules.proofs.Patterns.{twice}
use Rattle.grid_rules.specs.Rules.{refusal17}
use mathlib.Core.Bool.{true≢false}
use mathlib.Core.Path.{sym, ◌∙◌}
use borrow.Author.Tests.{lt-ltb, le-ltb}
use Rattle.grid_rules.proofs.laid_out.Goals.{then-count_in_rule, else-count_in_rule}
use Rattle.grid_rules.proofs.laid_out.Goals as goal

pub returns-then-g-lt8 : goal.returns-then-g-lt8
unfolding refusal17
returns-then-g-lt8 c = rw (lt-ltb _ _ c.if-g-lt8.true)

pub returns-then-count_in_rule-2 : goal.returns-then-count_in_rule-2
unfolding refusal17
returns-then-count_in_rule-2 c =
    elim c.if-count_in_rule.branch [
      | then-count_in_rule w ↦ rw (c.grid_length.ensures, ← c.column_count-columns.ensures, ← c.row_count-rows.ensures, le-ltb _ _ c.if-g-lt8.false, ← c.count_in_rule.ensures, ← w.count_in_rule-then-count_in_rule.ensures, w.if-count_in_rule.true, sym w.value-is ∙ c.if-count_in_rule-2.true) (twice _)
      | else-count_in_rule w ↦ absurd (true≢false (sym c.if-count_in_rule-2.true ∙ w.value-is ∙ w.if-count_in_rule.false))
    ]

pub returns-else-count_in_rule-2 : goal.returns-else-count_in_rule-2
unfolding refusal17
returns-else-count_in_rule-2 c =
    elim c.if-count_in_rule.branch [
      | then-count_in_rule w ↦ rw (c.if-count_in_rule-2.false, ← c.column_count-columns.ensures, ← c.row_count-rows.ensures, le-ltb _ _ c.if-g-lt8.false, ← c.count_in_rule.ensures, ← w.count_in_rule-then-count_in_rule.ensures, w.if-count_in_rule.true, sym w.value-is ∙ c.if-count_in_rule-2.false)
      | else-count_in_rule w ↦ rw (c.if-count_in_rule-2.false, ← c.column_count-columns.ensures, ← c.row_count-rows.ensures, le-ltb _ _ c.if-g-lt8.false, ← c.count_in_rule.ensures, w.if-count_in_rule.false)
    ]
