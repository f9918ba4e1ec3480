-- One case for each way through the tests. The test's outcome picks the definition's case.
-- Assumes nothing.
use Rattle.arctan.specs.Arctan.{within_of}
use Rattle.arctan.proofs.within.Goals as goal

pub returns-then-o-angle : goal.returns-then-o-angle
unfolding within_of
returns-then-o-angle c = rw (c.if-angle-o.true, c.if-o-angle.true)

pub returns-else-o-angle : goal.returns-else-o-angle
unfolding within_of
returns-else-o-angle c = rw (c.if-angle-o.true, c.if-o-angle.false)

pub returns-else-angle-o : goal.returns-else-angle-o
unfolding within_of
returns-else-angle-o c = rw c.if-angle-o.false
