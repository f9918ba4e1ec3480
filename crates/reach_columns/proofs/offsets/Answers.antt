-- The pass asks of each row what the definition asks. Assumes nothing.
use borrow.Author.Rules.{rules}
use Rattle.reach.specs.Met.{offsets_met}
use Rattle.reach_columns.proofs.offsets.Goals as goal

pub returns : goal.returns
returns c = c.rows_where.ensures (offsets_met c.args.abridged) (λ v r post. search (rules, post))
