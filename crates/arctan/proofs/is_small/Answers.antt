-- One case for each way through the tests. The test's outcome picks the definition's case.
-- Assumes nothing.
use borrow.Author.Tests.{ne_eqb}
use Rattle.arctan.specs.Arctan.{small}
use Rattle.arctan.proofs.is_small.Goals as goal

pub returns-then-k-eq0 : goal.returns-then-k-eq0
unfolding small
returns-then-k-eq0 c = rw c.if-k-eq0.true

pub returns-else-k-eq0 : goal.returns-else-k-eq0
unfolding small
returns-else-k-eq0 c = rw (ne_eqb c.args.k 0 c.if-k-eq0.false)
