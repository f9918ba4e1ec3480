-- The count of the chain, which the definition makes time by time (`given_counted`). Assumes nothing.
use borrow.Author.Rules.{rules}
use Rattle.helmert_columns.proofs.Laws.{given_counted}
use Rattle.helmert_columns.proofs.times_given.Goals as goal

pub returns : goal.returns
returns c = rw (given_counted c.args.t.now) (search rules)
