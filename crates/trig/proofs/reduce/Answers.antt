-- Calls are replaced by what they ensure; the definition is left. Assumes nothing.
use Rattle.trig.specs.Trig.{reduced_of}
use Rattle.trig.proofs.reduce.Goals as goal

pub returns : goal.returns
unfolding reduced_of
returns c = rw c.to_bits.ensures
