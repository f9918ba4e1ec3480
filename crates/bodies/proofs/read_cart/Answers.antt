-- By `read`'s promise. Assumes nothing.
use Rattle.bodies.specs.Read.{cart_in}
use Rattle.bodies.proofs.read_cart.Goals as goal

pub returns : goal.returns
unfolding cart_in
returns c = c.read.ensures
