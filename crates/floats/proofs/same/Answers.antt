-- Calls are replaced by what they ensure; the definition is left. Assumes nothing.
use Rattle.floats.specs.Number.{same_of}
use Rattle.floats.proofs.same.Goals as goal

pub returns : goal.returns
unfolding same_of
returns c = rw (c.to_bits.ensures, c.to_bits-2.ensures)
