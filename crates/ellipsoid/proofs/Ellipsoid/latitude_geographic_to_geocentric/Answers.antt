-- Calls are replaced by what they ensure; the definition is left. Assumes nothing.
use Rattle.ellipsoid.specs.Figure.{geocentric_of}
use Rattle.ellipsoid.proofs.Ellipsoid.latitude_geographic_to_geocentric.Goals as goal

pub returns : goal.returns
unfolding geocentric_of
returns c = rw c.atan2.ensures
