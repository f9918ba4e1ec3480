-- One case for each way through the tests. Calls are replaced by what they ensure; the definition
-- is left. Assumes nothing.
use Rattle.floats.proofs.copysign.Goals as goal

pub returns-then-negative : goal.returns-then-negative
returns-then-negative c = rw (c.abs.ensures, ← c.negative.ensures, c.if-negative.true)

pub returns-else-negative : goal.returns-else-negative
returns-else-negative c = rw (c.abs-else-negative.ensures, ← c.negative.ensures, c.if-negative.false)
