-- Calls are replaced by what they ensure; the definition is left. Assumes nothing.
use Rattle.job.proofs.read_head.Goals as goal

pub returns : goal.returns
returns c = rw (c.read32-4.ensures, c.read32-3.ensures, c.read32-2.ensures, c.read32.ensures)
