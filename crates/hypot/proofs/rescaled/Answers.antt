-- One case for each way through the tests. Calls are replaced by what they ensure; the definition
-- is left. Assumes nothing.
use Rattle.hypot.specs.Hypot.{rescaled_of}
use Rattle.hypot.proofs.rescaled.Goals as goal

pub returns-then-a : goal.returns-then-a
unfolding rescaled_of
returns-then-a c = rw (c.scaled_root.ensures, c.if-a.true)

pub returns-else-a : goal.returns-else-a
unfolding rescaled_of
returns-else-a c = rw (c.scaled_root-else-a.ensures, c.if-a.false)
