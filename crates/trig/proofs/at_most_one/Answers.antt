-- One case for each way through the tests. The test's outcome picks the definition's case.
-- Assumes nothing.
use Rattle.trig.specs.Trig.{at_most_one}
use Rattle.trig.proofs.at_most_one.Goals as goal

pub returns-then-r : goal.returns-then-r
unfolding at_most_one
returns-then-r c = rw c.if-r.true

pub returns-else-r : goal.returns-else-r
unfolding at_most_one
returns-else-r c = rw c.if-r.false
