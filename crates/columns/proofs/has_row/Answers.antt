-- One case for each answer of `level`; the rest of the body is the definition's. Assumes nothing.
use borrow.Author.Rules.{rules}
use Rattle.columns.specs.Columns.{has_row_of}
use Rattle.columns.proofs.has_row.Goals as goal

pub returns-then-level : goal.returns-then-level
unfolding has_row_of
returns-then-level c = search rules

pub returns-else-level : goal.returns-else-level
unfolding has_row_of
returns-else-level c = search rules
