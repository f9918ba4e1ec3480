-- By what the readers ensure. Assumes nothing.
use Rattle.grid.proofs.columns.Goals as goal

pub returns : goal.returns
returns c = rw (c.column_count.ensures, c.longitude_spacing.ensures, c.west.ensures)
