-- Calls are replaced by what they ensure; the definition is left. Assumes nothing.
use Rattle.helmert.specs.Rules.{finite3_of}
use Rattle.helmert.proofs.finite3.Goals as goal

pub returns : goal.returns
unfolding finite3_of
returns c = rw (c.is_finite-3.ensures, c.is_finite-2.ensures, c.is_finite.ensures)
