-- Calls are replaced by what they ensure; the definition is left. Assumes nothing.
use Rattle.helmert.specs.Rules.{rotated_of}
use Rattle.helmert.proofs.rotated.Goals as goal

pub returns : goal.returns
unfolding rotated_of
returns c = rw (c.some-2.ensures, c.some.ensures)
