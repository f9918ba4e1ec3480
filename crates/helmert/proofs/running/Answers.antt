-- Calls are replaced by what they ensure; the definition is left. Assumes nothing.
use Rattle.helmert.specs.Modes.{running_of}
use Rattle.helmert.proofs.running.Goals as goal

pub returns : goal.returns
unfolding running_of
returns c =
    rw (
      c.shifted-w.ensures,
      c.scale_at.ensures,
      c.rotation_at.ensures,
      c.next-now.ensures,
    )
