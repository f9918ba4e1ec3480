-- One case for each way through the tests. Calls are replaced by what they ensure; the definition
-- is left. Assumes nothing.
use borrow.Author.Tests.{lt-ltb, le-ltb}
use Rattle.arctan_block.proofs.mended.Goals as goal

pub returns-then-octant-quarters : goal.returns-then-octant-quarters
returns-then-octant-quarters c = rw (c.atan2.ensures, lt-ltb _ _ c.if-octant-quarters.true)

pub returns-else-octant-quarters : goal.returns-else-octant-quarters
returns-else-octant-quarters c = rw (le-ltb _ _ c.if-octant-quarters.false)
