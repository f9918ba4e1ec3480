-- Three mixes, one for each component. Assumes nothing.
use Rattle.grid.specs.Lookup.{mixed_of}
use Rattle.grid.proofs.mixed.Goals as goal

pub returns : goal.returns
unfolding mixed_of
returns c = rw (c.mix-3.ensures, c.mix-2.ensures, c.mix.ensures)
