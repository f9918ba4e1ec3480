-- Each call is replaced by what it ensures; the definition is left. Assumes nothing.
use Rattle.closure_report.specs.Report.{left_in}
use Rattle.closure_report.proofs.left_in.Goals as goal

pub returns : goal.returns
unfolding left_in
returns c = rw (c.larger-4.ensures, c.difference-4.ensures, c.larger-3.ensures, c.difference-3.ensures, c.larger-2.ensures, c.difference-2.ensures, c.larger.ensures, c.difference.ensures, c.one_more.ensures, c.some_left-some.ensures)
