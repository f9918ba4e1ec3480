-- Two counts by what `one_more` ensures; the rest as it is. Assumes nothing.
use Rattle.closure_report.specs.Report.{restored_in}
use Rattle.closure_report.proofs.restored_in.Goals as goal

pub returns : goal.returns
unfolding restored_in
returns c = rw (c.one_more-2.ensures, c.one_more.ensures)
