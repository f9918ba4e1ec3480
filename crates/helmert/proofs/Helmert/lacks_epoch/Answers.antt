-- Calls are replaced by what they ensure; the definition is left. Assumes nothing.
use Rattle.helmert.specs.Rules.{lacks_epoch_of}
use Rattle.helmert.proofs.Helmert.lacks_epoch.Goals as goal

pub returns : goal.returns
unfolding lacks_epoch_of
returns c = rw (c.is_nan.ensures, c.dynamic.ensures, c.scaled.ensures)
