-- One case for each way through the tests. The test's outcome picks the definition's case.
-- Assumes nothing.
use borrow.Author.Tests.{lt-ltb, le-ltb}
use Rattle.trig.specs.Table.{aside_of}
use Rattle.trig.proofs.aside.Goals as goal

pub returns-then-i-lt32 : goal.returns-then-i-lt32
unfolding aside_of
returns-then-i-lt32 c = rw (lt-ltb _ _ c.if-i-lt32.true)

pub returns-else-i-lt32 : goal.returns-else-i-lt32
unfolding aside_of
returns-else-i-lt32 c = rw (le-ltb _ _ c.if-i-lt32.false)
