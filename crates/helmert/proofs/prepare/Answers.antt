-- Calls are replaced by what they ensure; the definition is left. Assumes nothing.
use Rattle.helmert.specs.Modes.{prepare_of}
use Rattle.helmert.proofs.prepare.Goals as goal
use Rattle.helmert.proofs.prepare.Goals.{then-fixed, else-fixed}

pub returns : goal.returns
unfolding prepare_of
returns c =
    elim c.if-fixed.branch [
      | then-fixed w ↦ rw (
        w.at-is,
        w.observed-at.ensures,
        c.own_epoch.ensures,
        c.exact.ensures,
        c.rotated.ensures,
        ← c.scaled-p.ensures,
        ← c.dynamic-dynamic.ensures,
        ← c.is_nan.ensures,
        w.if-fixed.true,
      )
      | else-fixed w ↦ rw (
        w.at-is,
        c.own_epoch.ensures,
        c.exact.ensures,
        c.rotated.ensures,
        ← c.scaled-p.ensures,
        ← c.dynamic-dynamic.ensures,
        ← c.is_nan.ensures,
        w.if-fixed.false,
      )
    ]
