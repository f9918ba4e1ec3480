-- By `read`'s promise. Assumes nothing.
use Rattle.bodies.specs.Read.{molodensky_in}
use Rattle.bodies.proofs.read_molodensky.Goals as goal

pub returns : goal.returns
unfolding molodensky_in
returns c = c.read.ensures
