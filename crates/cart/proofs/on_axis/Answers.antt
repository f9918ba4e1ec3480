-- Calls are replaced by what they ensure; the definition is left. Assumes nothing.
use Rattle.cart.specs.Step.{on_axis_of}
use Rattle.cart.proofs.on_axis.Goals as goal

pub returns : goal.returns
unfolding on_axis_of
returns c = rw (c.pole_height.ensures, c.pole.ensures)
