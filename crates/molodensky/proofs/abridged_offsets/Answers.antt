-- One case for each way through the test. The test's outcome picks the definition's case. Assumes
-- nothing.
use Rattle.molodensky.specs.Step.{abridged_with}
use Rattle.molodensky.proofs.abridged_offsets.Goals as goal

pub returns-then-dlam_denom : goal.returns-then-dlam_denom
unfolding abridged_with
returns-then-dlam_denom c = rw c.if-dlam_denom.true

pub returns : goal.returns
unfolding abridged_with
returns c = rw c.if-dlam_denom.false
