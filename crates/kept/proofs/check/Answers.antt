-- The two tests of lengths are rules 9 and 13, and the order is that of `check_order`. Assumes
-- nothing.
use Rattle.kept.proofs.check.Goals as goal

pub returns : goal.returns
returns c = rw (c.list_broken-nine.ensures, c.lengths_broken-thirteen.ensures) at c.check_order.ensures
