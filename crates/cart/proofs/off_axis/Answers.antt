-- Calls are replaced by what they ensure; the definition is left. Assumes nothing.
use Rattle.cart.specs.Step.{legs_of, off_axis_of}
use Rattle.cart.proofs.off_axis.Goals as goal

pub returns : goal.returns
unfolding legs_of off_axis_of
returns c = rw (c.height.ensures, c.atan2.ensures, c.meridian-m.ensures, c.hypot.ensures)
