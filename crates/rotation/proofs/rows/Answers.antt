-- One case for each way through the tests. The test's outcome picks the definition's case.
-- Assumes nothing.
use Rattle.rotation.specs.Matrix.{rows_of}
use Rattle.rotation.proofs.rows.Goals as goal

pub returns-then-position_vector : goal.returns-then-position_vector
unfolding rows_of
returns-then-position_vector c = rw c.if-position_vector.true

pub returns : goal.returns
unfolding rows_of
returns c = rw c.if-position_vector.false
