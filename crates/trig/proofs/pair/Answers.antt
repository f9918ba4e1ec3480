-- Calls are replaced by what they ensure; the definition is left. Assumes nothing.
use Rattle.trig.specs.Trig.{sine_of, cosine_of}
use Rattle.trig.proofs.pair.Goals as goal

pub returns : goal.returns
unfolding sine_of cosine_of
returns c =
    rw (
      c.sum-2.ensures,
      c.sum.ensures,
      c.bend-b.ensures,
      c.look_up-w.ensures,
      c.reduce-g.ensures,
    )
