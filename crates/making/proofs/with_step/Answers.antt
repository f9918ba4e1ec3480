-- The test's outcome picks the definition's case. Assumes nothing.
use borrow.Author.Tests.{lt-ltb, le-ltb}
use Rattle.making.specs.Adding.{with_step_of}
use Rattle.making.proofs.with_step.Goals as goal
use Rattle.making.proofs.with_step.Goals.{then-n-lt16, else-n-lt16}

pub returns : goal.returns
unfolding with_step_of
returns c =
    elim c.if-n-lt16.branch [
      | then-n-lt16 w ↦ rw (w.entries-is, lt-ltb _ _ w.if-n-lt16.true)
      | else-n-lt16 w ↦ rw (w.entries-is, le-ltb _ _ w.if-n-lt16.false)
    ]
