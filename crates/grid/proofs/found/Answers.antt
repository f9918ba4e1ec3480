-- By what the calls ensure. Assumes nothing.
use Rattle.grid.specs.Lookup.{found_of}
use Rattle.grid.proofs.found.Goals as goal

pub returns : goal.returns
unfolding found_of
returns c = rw (c.found_in.ensures, c.columns.ensures, c.rows.ensures)
