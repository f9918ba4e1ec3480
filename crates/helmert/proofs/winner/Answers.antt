-- One case for each way through the tests. The test's outcome picks the definition's case.
-- Assumes nothing.
use Rattle.helmert.specs.Units.{winner_of}
use Rattle.helmert.proofs.winner.Goals as goal

pub returns-then-single : goal.returns-then-single
unfolding winner_of
returns-then-single c = rw c.if-single.true

pub returns-else-single : goal.returns-else-single
unfolding winner_of
returns-else-single c = rw c.if-single.false
