-- Below the step count the entry is read word by word, from there on it is blank, as `entry_at` has
-- it. Assumes nothing.
use borrow.Author.Tests.{lt-ltb, le-ltb}
use Rattle.sheet.specs.Layout.{entry_at}
use Rattle.sheet.proofs.entry_at.Goals as goal

pub returns-then-i-step_count : goal.returns-then-i-step_count
unfolding entry_at
returns-then-i-step_count c = rw (← c.step_count.ensures.0, lt-ltb _ _ c.if-i-step_count.true, c.inverted_at.ensures, c.read_body-step.ensures, c.body_at.ensures, c.kind_at.ensures)

pub returns : goal.returns
unfolding entry_at
returns c = rw (← c.step_count.ensures.0, le-ltb _ _ c.if-i-step_count.false, c.blank.ensures)
