-- Calls are replaced by what they ensure; the definition is left. Assumes nothing.
use Rattle.trig_block.proofs.both.Goals as goal

pub returns : goal.returns
returns c = rw (c.cosine_from.ensures, c.sine_from.ensures, c.pair_from-p.ensures)
