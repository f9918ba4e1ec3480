-- Calls are replaced by what they ensure; the definition is left. Assumes nothing.
use Rattle.helmert.specs.Modes.{counted_of}
use Rattle.helmert.proofs.counted.Goals as goal

pub returns : goal.returns
unfolding counted_of
returns c = rw (c.is_nan.ensures, c.is_own_epoch.ensures)
