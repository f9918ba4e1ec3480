-- One case for each way through the tests. The facts at hand are what is asked. Assumes nothing.
use borrow.Author.Rules.{rules}
use Rattle.chain.proofs.lent_for.Goals as goal

pub returns-then-deforms : goal.returns-then-deforms
returns-then-deforms c = (rw c.if-deforms.true, search rules)
