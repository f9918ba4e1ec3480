-- Calls are replaced by what they ensure; the definition is left. Assumes nothing.
use Rattle.helmert.specs.Rules.{vectors_finite_of}
use Rattle.helmert.proofs.Helmert.vectors_finite.Goals as goal

pub returns : goal.returns
unfolding vectors_finite_of
returns c =
    rw (
      c.finite3-8.ensures,
      c.finite3-7.ensures,
      c.finite3-6.ensures,
      c.finite3-5.ensures,
      c.finite3-4.ensures,
      c.finite3-3.ensures,
      c.finite3-2.ensures,
      c.finite3.ensures,
    )
