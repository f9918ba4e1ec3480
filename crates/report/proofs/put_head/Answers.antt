-- Calls are replaced by what they ensure; the definition is left. Assumes nothing.
use Rattle.report.proofs.put_head.Goals as goal

pub returns : goal.returns
returns c = rw (← c.long-2.ensures, ← c.long.ensures) c.put_line.ensures
