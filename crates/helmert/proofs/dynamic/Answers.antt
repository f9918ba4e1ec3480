-- Calls are replaced by what they ensure; the definition is left. Assumes nothing.
use Rattle.helmert.specs.Rules.{dynamic_of}
use Rattle.helmert.proofs.dynamic.Goals as goal

pub returns : goal.returns
unfolding dynamic_of
returns c = rw (c.some-2.ensures, c.some.ensures)
