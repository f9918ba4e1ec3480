-- By `read`'s promise. Assumes nothing.
use Rattle.bodies.specs.Read.{permtide_in}
use Rattle.bodies.proofs.read_permtide.Goals as goal

pub returns : goal.returns
unfolding permtide_in
returns c = c.read.ensures
