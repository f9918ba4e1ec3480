-- One case for each way through the tests. The test's outcome picks the definition's case.
-- Assumes nothing.
use Rattle.hypot.specs.Hypot.{bounded_of}
use Rattle.hypot.proofs.bounded.Goals as goal

pub returns-then-length-sum : goal.returns-then-length-sum
unfolding bounded_of
returns-then-length-sum c = rw (c.if-length-sum.true, c.if-a-length.true)

pub returns-then-a-length-2 : goal.returns-then-a-length-2
unfolding bounded_of
returns-then-a-length-2 c = rw (c.if-length-sum-2.true, c.if-a-length-2.true)

pub returns-else-a-length-2 : goal.returns-else-a-length-2
unfolding bounded_of
returns-else-a-length-2 c = rw (c.if-length-sum-2.true, c.if-a-length-2.false)

pub returns-else-length-sum-2 : goal.returns-else-length-sum-2
unfolding bounded_of
returns-else-length-sum-2 c = rw c.if-length-sum-2.false
