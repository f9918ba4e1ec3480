-- Calls are replaced by what they ensure; the definition is left. Assumes nothing.
use Rattle.helmert.specs.Rules.{scales_finite_of}
use Rattle.helmert.proofs.Helmert.scales_finite.Goals as goal

pub returns : goal.returns
unfolding scales_finite_of
returns c =
    rw (
      c.is_finite-4.ensures,
      c.is_finite-3.ensures,
      c.is_finite-2.ensures,
      c.is_finite.ensures,
    )
