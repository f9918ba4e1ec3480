-- One case for each way through the tests. The test's outcome picks the definition's case.
-- Assumes nothing.
use Rattle.arctan.specs.Arctan.{scale_of}
use Rattle.arctan.proofs.scale_of.Goals as goal

pub returns-then-a : goal.returns-then-a
unfolding scale_of
returns-then-a c = rw c.if-a.true

pub returns-else-a : goal.returns-else-a
unfolding scale_of
returns-else-a c = rw c.if-a.false
