-- One case for each way through the tests. Calls are replaced by what they ensure; the definition
-- is left. Assumes nothing.
use Rattle.molodensky.specs.Step.{moped_of}
use Rattle.molodensky.proofs.Moped.new.Goals as goal

pub returns-then-two_ellipsoids : goal.returns-then-two_ellipsoids
unfolding moped_of
returns-then-two_ellipsoids c =
    rw (
      c.with.ensures,
      c.named-ellps_1.ensures,
      c.named-ellps_0.ensures,
      ← c.two_ellipsoids.ensures,
      c.if-two_ellipsoids.true,
    )

pub returns : goal.returns
unfolding moped_of
returns c = rw (c.with-2.ensures, c.named-ellps_0.ensures, ← c.two_ellipsoids.ensures, c.if-two_ellipsoids.false)
