-- Calls are replaced by what they ensure; the definition is left. Assumes nothing.
use Rattle.job.specs.Job.{refusal16}
use Rattle.job.proofs.is_bad.Goals as goal

pub returns : goal.returns
unfolding refusal16
returns c = rw (c.wide.ensures.0, c.marks_at.ensures.0)
