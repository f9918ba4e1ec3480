-- One product and one sum. Assumes nothing.
use Rattle.grid.specs.Lookup.{last_of}
use Rattle.grid.proofs.Axis.last.Goals as goal

pub returns : goal.returns
unfolding last_of
returns c = rw c.far.ensures
