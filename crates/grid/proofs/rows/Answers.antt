-- By what the readers ensure. Assumes nothing.
use Rattle.grid.proofs.rows.Goals as goal

pub returns : goal.returns
returns c = rw (c.row_count.ensures, c.latitude_spacing.ensures, c.south.ensures)
