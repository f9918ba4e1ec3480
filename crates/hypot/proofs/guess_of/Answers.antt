-- Calls are replaced by what they ensure; the definition is left. Assumes nothing.
use Rattle.hypot.specs.Hypot.{guess_of}
use Rattle.hypot.proofs.guess_of.Goals as goal

pub returns : goal.returns
unfolding guess_of
returns c = rw (c.of_bits.ensures, c.to_bits.ensures)
