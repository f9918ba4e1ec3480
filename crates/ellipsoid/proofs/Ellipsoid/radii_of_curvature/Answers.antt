-- Calls are replaced by what they ensure; the definition is left. Assumes nothing.
use Rattle.ellipsoid.specs.Figure.{prime_vertical_of, meridian_of}
use Rattle.ellipsoid.proofs.Ellipsoid.radii_of_curvature.Goals as goal

pub returns : goal.returns
unfolding prime_vertical_of meridian_of
returns c = rw (c.radii_with.ensures, c.sqrt.ensures, c.w-w.ensures)
