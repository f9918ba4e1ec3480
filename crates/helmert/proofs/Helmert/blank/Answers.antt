-- The call is replaced by what it ensures; the definition is left. Assumes nothing.
use Rattle.helmert.specs.Record.{blank_helmert}
use Rattle.helmert.proofs.Helmert.blank.Goals as goal

pub returns : goal.returns
unfolding blank_helmert
returns c = c.zeros_with.ensures
