-- Both tests by what `any_nan` ensures. Assumes nothing.
use Rattle.closure_report.specs.Report.{lost_of}
use Rattle.closure_report.proofs.is_lost.Goals as goal

pub returns : goal.returns
unfolding lost_of
returns c = rw (c.any_nan-2.ensures, c.any_nan.ensures)
