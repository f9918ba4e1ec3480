-- Calls are replaced by what they ensure; the definition is left. Assumes nothing.
use Rattle.geocart.specs.Geocart.{pole_height_of}
use Rattle.geocart.proofs.pole_height.Goals as goal

pub returns : goal.returns
unfolding pole_height_of
returns c = rw c.abs.ensures
