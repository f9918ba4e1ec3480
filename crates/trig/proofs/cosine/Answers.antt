-- Calls are replaced by what they ensure; the definition is left. Assumes nothing.
use Rattle.trig.specs.Trig.{cosine_of}
use Rattle.trig.proofs.cosine.Goals as goal

pub returns : goal.returns
unfolding cosine_of
returns c =
    rw (
      c.sum.ensures,
      c.bend-b.ensures,
      c.look_up-w.ensures,
      c.reduce-g.ensures,
    )
