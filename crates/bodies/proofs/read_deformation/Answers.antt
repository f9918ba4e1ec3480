-- By `read`'s promise. Assumes nothing.
use Rattle.bodies.specs.Read.{deformation_in}
use Rattle.bodies.proofs.read_deformation.Goals as goal

pub returns : goal.returns
unfolding deformation_in
returns c = c.read.ensures
