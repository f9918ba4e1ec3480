-- `columns::read_four` meets its contract. Assumes nothing.
use borrow.Author.Rules.{rules}
use Rattle.lists.proofs.Places.{tuple-there}
use mathlib.Core.Path.{sym}
use Rattle.columns.proofs.read_four.Goals as goal

pub returns : goal.returns
returns c = sym (tuple-there _ _ (search rules))
