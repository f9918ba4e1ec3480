-- What the body does is, step by step, what the definition says. Assumes nothing.
use Rattle.bodies.specs.Read.{cart_of}
use Rattle.bodies.proofs.CartBody.fields.Goals as goal

pub returns : goal.returns
unfolding cart_of
returns c = cc
