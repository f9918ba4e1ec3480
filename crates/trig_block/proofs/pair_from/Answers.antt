-- Calls are replaced by what they ensure; the definition is left. Assumes nothing.
use Rattle.trig_block.proofs.pair_from.Goals as goal

pub returns : goal.returns
returns c = rw (c.sum-2.ensures, c.sum.ensures, c.bend-b.ensures)
