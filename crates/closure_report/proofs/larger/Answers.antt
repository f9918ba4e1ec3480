-- The test is the definition's. Assumes nothing.
use Rattle.closure_report.specs.Report.{larger_of}
use Rattle.closure_report.proofs.larger.Goals as goal

pub returns-then-some-before : goal.returns-then-some-before
unfolding larger_of
returns-then-some-before c = rw c.if-some-before.true

pub returns-else-some-before : goal.returns-else-some-before
unfolding larger_of
returns-else-some-before c = rw c.if-some-before.false
