-- The call is replaced by what it ensures; the definition is left. Assumes nothing.
use Rattle.helmert.specs.Record.{zero_helmert}
use Rattle.helmert.proofs.Helmert.zeros.Goals as goal

pub returns : goal.returns
unfolding zero_helmert
returns c = c.zeros_with.ensures
