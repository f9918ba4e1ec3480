-- Calls are replaced by what they ensure; the definition is left. Assumes nothing.
use Rattle.helmert.specs.Rules.{time_of}
use Rattle.helmert.proofs.time.Goals as goal

pub returns : goal.returns
unfolding time_of
returns c = rw (c.is_nan.ensures, c.is_finite.ensures)
