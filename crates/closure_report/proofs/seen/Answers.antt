-- One case for each fate of a fix: lost, restored, left. Assumes nothing.
use Rattle.closure_report.specs.Report.{seen_of}
use Rattle.closure_report.proofs.seen.Goals as goal

pub returns-then-is_lost : goal.returns-then-is_lost
unfolding seen_of
returns-then-is_lost c = rw (c.lost_in.ensures, ← c.is_lost.ensures, c.if-is_lost.true)

pub returns-then-is_restored : goal.returns-then-is_restored
unfolding seen_of
returns-then-is_restored c = rw (c.restored_in.ensures, ← c.is_lost.ensures, c.if-is_lost.false, ← c.is_restored.ensures, c.if-is_restored.true)

pub returns-else-is_restored : goal.returns-else-is_restored
unfolding seen_of
returns-else-is_restored c = rw (c.left_in.ensures, ← c.is_lost.ensures, c.if-is_lost.false, ← c.is_restored.ensures, c.if-is_restored.false)
