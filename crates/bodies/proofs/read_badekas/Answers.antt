-- By `read`'s promise. Assumes nothing.
use Rattle.bodies.specs.Read.{badekas_in}
use Rattle.bodies.proofs.read_badekas.Goals as goal

pub returns : goal.returns
unfolding badekas_in
returns c = c.read.ensures
