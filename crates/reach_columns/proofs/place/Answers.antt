-- The pass asks of each row what the definition asks. Assumes nothing.
use borrow.Author.Rules.{rules}
use Rattle.reach.specs.Met.{place_met}
use Rattle.reach_columns.proofs.place.Goals as goal

pub returns : goal.returns
returns c = c.rows_where.ensures place_met (λ v r post. search (rules, post))
