-- The three tests of lengths are rules 9 and 13, and the order is that of `check_order`. Assumes
-- nothing.
use Rattle.kept_columns.proofs.check_lengths.Goals as goal

pub returns : goal.returns
returns c = rw (c.columns_broken-nine.ensures, c.uneven_rows-results.ensures, c.uneven_rows-track.ensures) at c.check_order.ensures
