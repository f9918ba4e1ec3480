-- Calls are replaced by what they ensure; the definition is left. Assumes nothing.
use Rattle.geocart.specs.Geocart.{legs_of}
use Rattle.geocart.proofs.legs_at.Goals as goal

pub returns : goal.returns
unfolding legs_of
returns c = rw (c.cube-2.ensures, c.cube.ensures)
