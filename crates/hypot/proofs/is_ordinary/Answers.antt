-- One case for each way through the tests. The test's outcome picks the definition's case.
-- Assumes nothing.
use Rattle.hypot.specs.Hypot.{ordinary}
use Rattle.hypot.proofs.is_ordinary.Goals as goal

pub returns-then-squares : goal.returns-then-squares
unfolding ordinary
returns-then-squares c = rw c.if-squares.true

pub returns-else-squares : goal.returns-else-squares
unfolding ordinary
returns-else-squares c = rw c.if-squares.false
