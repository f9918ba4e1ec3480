-- Calls are replaced by what they ensure; the definition is left. Assumes nothing.
use Rattle.badekas.specs.Rules.{lacks_convention_of}
use Rattle.badekas.proofs.Badekas.lacks_convention.Goals as goal

pub returns : goal.returns
unfolding lacks_convention_of
returns c = rw (c.lacks_convention.ensures, c.helmert.ensures)
