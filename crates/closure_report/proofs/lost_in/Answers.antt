-- Two counts by what `one_more` ensures; the rest as it is. Assumes nothing.
use Rattle.closure_report.specs.Report.{lost_in}
use Rattle.closure_report.proofs.lost_in.Goals as goal

pub returns : goal.returns
unfolding lost_in
returns c = rw (c.one_more-2.ensures, c.one_more.ensures)
