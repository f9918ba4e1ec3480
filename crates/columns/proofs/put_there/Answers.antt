-- Four stores are a tuple put into the flat list (`row-set`). Assumes nothing.
use borrow.Author.Rules.{rules}
use Rattle.columns.proofs.Laws.{row-set}
use Rattle.columns.proofs.put_there.Goals as goal

pub returns : goal.returns
returns c = row-set _ _ _ _ (search rules, search rules, search rules) _ (search rules) _
