-- Calls are replaced by what they ensure; the definition is left. Assumes nothing.
use Rattle.geocart.specs.Geocart.{bowring_height_of}
use Rattle.geocart.proofs.bowring_height.Goals as goal

pub returns : goal.returns
unfolding bowring_height_of
returns c = rw (c.prime_vertical_radius_of_curvature-n.ensures, c.hypot-lenphi.ensures)
