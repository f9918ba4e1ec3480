-- By what the calls ensure. Assumes nothing.
use Rattle.grid.specs.Lookup.{found_of}
use Rattle.grid_c.proofs.grid_found_block.Goals as goal

pub returns : goal.returns
unfolding found_of
returns c = rw (c.columns.ensures, c.rows.ensures) at c.found_block.ensures
