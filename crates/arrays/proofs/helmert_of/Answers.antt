-- Calls are replaced by what they ensure; the definition is left. Assumes nothing.
use Rattle.arrays.specs.Arrays.{helmert_of}
use Rattle.arrays.proofs.helmert_of.Goals as goal

pub returns : goal.returns
unfolding helmert_of
returns c =
    rw (
      c.three_at-8.ensures,
      c.three_at-7.ensures,
      c.three_at-6.ensures,
      c.three_at-5.ensures,
      c.three_at-4.ensures,
      c.three_at-3.ensures,
      c.three_at-2.ensures,
      c.three_at.ensures,
    )
