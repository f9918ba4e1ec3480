-- By `read`'s promise. Assumes nothing.
use Rattle.bodies.specs.Read.{helmert_in}
use Rattle.bodies.proofs.read_helmert.Goals as goal

pub returns : goal.returns
unfolding helmert_in
returns c = c.read.ensures
