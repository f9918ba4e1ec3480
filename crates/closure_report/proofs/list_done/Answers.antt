-- The count of lists by what `one_more` ensures; the rest as it is. Assumes nothing.
use Rattle.closure_report.specs.Report.{list_done}
use Rattle.closure_report.proofs.list_done.Goals as goal

pub returns : goal.returns
unfolding list_done
returns c = rw c.one_more.ensures
