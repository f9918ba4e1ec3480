-- Calls are replaced by what they ensure; the definition is left. Assumes nothing.
use Rattle.trig.specs.Trig.{sine_of}
use Rattle.trig.proofs.sine.Goals as goal

pub returns : goal.returns
unfolding sine_of
returns c =
    rw (
      c.sum.ensures,
      c.bend-b.ensures,
      c.look_up-w.ensures,
      c.reduce-g.ensures,
    )
