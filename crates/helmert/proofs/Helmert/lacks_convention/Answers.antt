-- Calls are replaced by what they ensure; the definition is left. Assumes nothing.
use Rattle.helmert.specs.Rules.{lacks_convention_of}
use Rattle.helmert.proofs.Helmert.lacks_convention.Goals as goal

pub returns : goal.returns
unfolding lacks_convention_of
returns c = rw (c.rotated.ensures, c.scaled.ensures)
