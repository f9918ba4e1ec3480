-- By what `level` ensures: sixteen is at most what is left from i on just where i + 16 is at most
-- the length (`within`). Assumes nothing.
use borrow.Author.Rules.{rules}
use lib.ListN.{length}
use Rattle.column_blocks.proofs.Blocks.{within}
use Rattle.column_blocks.proofs.has_block.Goals as goal

pub returns-then-level : goal.returns-then-level
returns-then-level c = let o = c.args in search (rules, within o.i (length o.x.now))

pub returns-else-level : goal.returns-else-level
returns-else-level c = search rules
