-- Calls are replaced by what they ensure; the definition is left. Assumes nothing.
use Rattle.trig_block.proofs.usual_both.Goals as goal

pub returns : goal.returns
returns c = rw (c.signed.ensures, c.pair_from-p.ensures)
