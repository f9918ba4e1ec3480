-- One case for each way through the tests. Calls are replaced by what they ensure; the definition
-- is left. Assumes nothing.
use Rattle.cart_block.proofs.counts_at.Goals as goal

pub returns-then-p-k : goal.returns-then-p-k
returns-then-p-k c = rw c.if-p-k.true

pub returns-else-p-k : goal.returns-else-p-k
returns-else-p-k c = rw (c.any_nan-whole.ensures, c.if-p-k.false)
