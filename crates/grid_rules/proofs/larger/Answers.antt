-- By the one comparison. Assumes nothing.
use Rattle.grid_rules.specs.Patterns.{larger_of}
use borrow.Author.Tests.{lt-ltb, le-ltb}
use Rattle.grid_rules.proofs.larger.Goals as goal

pub returns-then-a-b : goal.returns-then-a-b
unfolding larger_of
returns-then-a-b c = rw (lt-ltb _ _ c.if-a-b.true)

pub returns-else-a-b : goal.returns-else-a-b
unfolding larger_of
returns-else-a-b c = rw (le-ltb _ _ c.if-a-b.false)
