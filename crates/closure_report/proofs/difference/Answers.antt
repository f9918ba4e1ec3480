-- One case each for bits that are equal and for others. Assumes nothing.
use Rattle.closure_report.specs.Report.{difference_of}
use Rattle.closure_report.proofs.difference.Goals as goal

pub returns-then-same : goal.returns-then-same
unfolding difference_of
returns-then-same c = rw (← c.same.ensures, c.if-same.true)

pub returns-else-same : goal.returns-else-same
unfolding difference_of
returns-else-same c = rw (c.to_bits.ensures, c.abs.ensures, ← c.same.ensures, c.if-same.false)
