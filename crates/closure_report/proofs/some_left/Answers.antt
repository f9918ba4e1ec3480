-- A difference in place of a sum, so that nothing passes 64 bits. Assumes nothing.
use Rattle.closure_report.specs.Report.{some_left}
use Rattle.closure_report.proofs.Turns.{by_difference}
use Rattle.closure_report.proofs.some_left.Goals as goal

pub returns : goal.returns
unfolding some_left
returns c = rw c.saturating_sub.ensures (by_difference _ _ _)
