-- One case for each way through the tests. Calls are replaced by what they ensure; the definition
-- is left. Assumes nothing.
use Rattle.deformation.specs.Step.{correction_of, deformed_of}
use Rattle.deformation.proofs.deformed.Goals as goal

pub returns-then-op : goal.returns-then-op
unfolding correction_of deformed_of
returns-then-op c =
    rw (
      c.with_length.ensures,
      c.rotate_and_integrate_velocity-deformation.ensures,
      c.metres.ensures,
      c.duration-d.ensures,
      c.if-op.true,
    )

pub returns : goal.returns
unfolding correction_of deformed_of
returns c =
    rw (
      c.add.ensures,
      c.rotate_and_integrate_velocity-deformation.ensures,
      c.metres.ensures,
      c.duration-d.ensures,
      c.if-op.false,
    )
