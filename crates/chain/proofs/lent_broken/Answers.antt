-- One case for each outcome of the lengths' test, which is the first two tests of the definition; the
-- last is asked only where both lengths are right (`any_over`). Assumes nothing.
use Rattle.chain.specs.Rules.{refusal10}
use Rattle.chain.proofs.Marks.{any_over}
use Rattle.chain.proofs.lent_broken.Goals as goal

pub returns-then-lengths : goal.returns-then-lengths
unfolding refusal10
returns-then-lengths c = rw (← c.lent_for-tuples.ensures.0, c.if-lengths.true)

pub returns-else-lengths : goal.returns-else-lengths
unfolding refusal10
returns-else-lengths c = rw (← c.lent_for-tuples.ensures.0, c.if-lengths.false, c.over_one.ensures) (any_over c.args.marks.now)
