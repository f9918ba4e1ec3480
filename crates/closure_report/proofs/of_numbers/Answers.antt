-- Each number at its place, and each coordinate's three by what `largest_at` ensures. Assumes
-- nothing.
use Rattle.closure_report.specs.Report.{report_of}
use Rattle.closure_report.proofs.of_numbers.Goals as goal

pub returns : goal.returns
unfolding report_of
returns c = rw (c.largest_at-4.ensures, c.largest_at-3.ensures, c.largest_at-2.ensures, c.largest_at.ensures)
