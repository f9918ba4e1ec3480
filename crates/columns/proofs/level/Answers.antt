-- One case for each way through the comparisons, which are the definition's, in its order. Assumes
-- nothing.
use borrow.Author.Rules.{rules}
use Rattle.columns.specs.Columns.{level_of}
use Rattle.columns.proofs.level.Goals as goal

pub returns-then-z-x : goal.returns-then-z-x
unfolding level_of
returns-then-z-x c = search rules

pub returns-else-z-x : goal.returns-else-z-x
unfolding level_of
returns-else-z-x c = search rules
