-- Calls are replaced by what they ensure; the definition is left. Assumes nothing.
use Rattle.arrays.specs.Arrays.{badekas_of}
use Rattle.arrays.proofs.badekas_of.Goals as goal

pub returns : goal.returns
unfolding badekas_of
returns c =
    rw (
      c.three_at-3.ensures,
      c.three_at-2.ensures,
      c.three_at.ensures,
    )
