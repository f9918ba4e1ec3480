-- Calls are replaced by what they ensure; the definition is left. Assumes nothing.
use Rattle.cart.specs.Step.{height_with}
use Rattle.cart.proofs.height_with.Goals as goal

pub returns : goal.returns
unfolding height_with
returns c = rw (c.abs-3.ensures, c.abs-2.ensures, c.abs.ensures)
