-- One case for each way through the tests. Each by `zero_over_zero`, from what the calls ensure.
-- Assumes nothing.
use Rattle.trig_block.specs.Block.{cos_from}
use Rattle.floats.proofs.Nan.{zero_over_zero}
use Rattle.trig_block.proofs.cosine_from.Goals as goal

pub returns-then-x : goal.returns-then-x
unfolding cos_from
returns-then-x c = rw c.if-x.true

pub returns-then-abs : goal.returns-then-abs
unfolding cos_from
returns-then-abs c = rw (c.if-x.false, ← c.abs.ensures, c.if-abs.true)

pub returns-else-abs : goal.returns-else-abs
unfolding cos_from
returns-else-abs c = rw (zero_over_zero, c.if-x.false, ← c.abs.ensures, c.if-abs.false)
