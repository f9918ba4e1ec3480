-- The tests are `refusal12`'s. Assumes nothing.
use Rattle.kept.specs.Entries.{refusal12}
use Rattle.kept.proofs.step_broken.Goals as goal

pub returns : goal.returns
unfolding refusal12
returns c = rw (c.step_count.ensures.0, c.kind_at-kind.ensures)
