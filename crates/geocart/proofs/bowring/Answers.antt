-- Calls are replaced by what they ensure; the definition is left. Assumes nothing.
use Rattle.geocart.specs.Geocart.{bowring_of}
use Rattle.geocart.proofs.bowring.Goals as goal

pub returns : goal.returns
unfolding bowring_of
returns c = rw (c.legs_at.ensures, c.sqrt.ensures, c.tangent-t.ensures)
