-- One case for each way through the tests. Calls are replaced by what they ensure; the definition
-- is left. Assumes nothing.
use Rattle.geocart.specs.Geocart.{geographic_of}
use Rattle.geocart.proofs.place.Goals as goal

pub returns-then-p : goal.returns-then-p
unfolding geographic_of
returns-then-p c = rw (c.pole.ensures, c.atan2-lam.ensures, ← c.hypot-p.ensures, c.if-p.true)

pub returns : goal.returns
unfolding geographic_of
returns c =
    rw (
      c.atan2.ensures,
      c.bowring-m.ensures,
      c.atan2-lam.ensures,
      ← c.hypot-p.ensures,
      c.if-p.false,
    )
