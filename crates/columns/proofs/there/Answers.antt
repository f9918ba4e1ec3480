-- The four numbers read are the flat list's tuple (`row-there`). Assumes nothing.
use borrow.Author.Rules.{rules}
use Rattle.columns.proofs.Laws.{row-there}
use Rattle.columns.proofs.there.Goals as goal

pub returns : goal.returns
returns c = row-there _ _ _ _ (search rules, search rules, search rules) _ (search rules)
