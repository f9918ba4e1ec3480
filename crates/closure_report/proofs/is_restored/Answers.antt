-- The four comparisons by what `same` ensures. Assumes nothing.
use Rattle.closure_report.specs.Report.{restored_of}
use Rattle.closure_report.proofs.is_restored.Goals as goal

pub returns : goal.returns
unfolding restored_of
returns c = rw (c.same-4.ensures, c.same-3.ensures, c.same-2.ensures, c.same.ensures)
