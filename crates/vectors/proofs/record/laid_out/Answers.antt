-- Calls are replaced by what they ensure; the definition is left. Assumes nothing.
use Rattle.vectors.specs.Replay.{laid_out}
use Rattle.vectors.proofs.record.laid_out.Goals as goal

pub returns : goal.returns
unfolding laid_out
returns c = rw (c.read32.ensures, c.length_at.ensures.0, c.length_at-lent.ensures.0, c.length_at-tuples.ensures.0)
