-- Calls are replaced by what they ensure; the definition is left. Assumes nothing.
use Rattle.report.proofs.refused.Goals as goal

pub returns : goal.returns
returns c = rw (← c.wide64-2.ensures.0, ← c.wide64.ensures.0) c.put_line.ensures
