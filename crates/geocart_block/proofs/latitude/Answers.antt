-- One case for each way through the tests. Calls are replaced by what they ensure; the definition
-- is left. Assumes nothing.
use Rattle.geocart_block.proofs.latitude.Goals as goal

pub returns-then-p-cutoff : goal.returns-then-p-cutoff
returns-then-p-cutoff c = rw (c.pole-axis.ensures, c.if-p-cutoff.true)

pub returns-else-p-cutoff : goal.returns-else-p-cutoff
returns-else-p-cutoff c = rw c.if-p-cutoff.false
