-- Each return by the tests that led there. Assumes nothing.
use Rattle.grid_rules.specs.Rules.{layout_place}
use borrow.Author.Tests.{lt-ltb, le-ltb}
use Rattle.grid_rules.proofs.layout_place.Goals as goal

pub returns-then-g-lt8 : goal.returns-then-g-lt8
unfolding layout_place
returns-then-g-lt8 c = rw (lt-ltb _ _ c.if-g-lt8.true)

pub returns-then-not-count_in_rule : goal.returns-then-not-count_in_rule
unfolding layout_place
returns-then-not-count_in_rule c = rw (← c.row_count-rows.ensures, le-ltb _ _ c.if-g-lt8.false, ← c.count_in_rule.ensures, c.if-not-count_in_rule.true)

pub returns-then-not-count_in_rule-2 : goal.returns-then-not-count_in_rule-2
unfolding layout_place
returns-then-not-count_in_rule-2 c = rw (← c.column_count-columns.ensures, ← c.row_count-rows.ensures, le-ltb _ _ c.if-g-lt8.false, ← c.count_in_rule.ensures, c.if-not-count_in_rule.false, ← c.count_in_rule-2.ensures, c.if-not-count_in_rule-2.true)

pub returns : goal.returns
unfolding layout_place
returns c = rw (← c.column_count-columns.ensures, ← c.row_count-rows.ensures, le-ltb _ _ c.if-g-lt8.false, ← c.count_in_rule.ensures, c.if-not-count_in_rule.false, ← c.count_in_rule-2.ensures, c.if-not-count_in_rule-2.false, c.min.ensures, c.grid_length.ensures)
