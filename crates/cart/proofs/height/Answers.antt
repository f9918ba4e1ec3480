-- Calls are replaced by what they ensure; the definition is left. Assumes nothing.
use Rattle.cart.specs.Step.{height_of}
use Rattle.cart.proofs.height.Goals as goal

pub returns : goal.returns
unfolding height_of
returns c = rw (c.height_with.ensures, c.hypot-2.ensures, c.hypot.ensures)
