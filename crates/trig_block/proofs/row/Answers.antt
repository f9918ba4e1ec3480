-- On the first half the table's row is the step's. Assumes nothing.
use borrow.Author.Tests.{lt-ltb}
use Rattle.trig.specs.Table.{row_of, half_of}
use Rattle.trig_block.proofs.row.Goals as goal

pub returns-then-i-lt32 : goal.returns-then-i-lt32
unfolding row_of half_of
returns-then-i-lt32 c = rw (c.half.ensures, lt-ltb _ _ c.if-i-lt32.true)

pub returns-else-i-lt32 : goal.returns-else-i-lt32
returns-else-i-lt32 c = c.look_up.ensures
