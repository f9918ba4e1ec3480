-- One case for each way through the tests. Each by `zero_over_zero`. Assumes nothing.
use Rattle.floats.proofs.Nan.{zero_over_zero}
use borrow.Author.Tests.{eq-eqb, ne_eqb}
use Rattle.deformation_block.proofs.kept.Goals as goal

pub returns-then-mark-eq1 : goal.returns-then-mark-eq1
returns-then-mark-eq1 c = rw (eq-eqb _ 1 c.if-mark-eq1.true)

pub returns-else-mark-eq1 : goal.returns-else-mark-eq1
returns-else-mark-eq1 c = rw (zero_over_zero, ne_eqb _ 1 c.if-mark-eq1.false)
