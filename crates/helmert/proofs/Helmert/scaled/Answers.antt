-- Calls are replaced by what they ensure; the definition is left. Assumes nothing.
use Rattle.helmert.specs.Units.{parameters_of}
use Rattle.helmert.proofs.Helmert.scaled.Goals as goal

pub returns : goal.returns
unfolding parameters_of
returns c =
    rw (
      c.winner-2.ensures,
      c.winner.ensures,
      c.angles-dr.ensures,
      c.angles-r.ensures,
      c.lengths-dt.ensures,
      c.lengths-t.ensures,
      c.angular_scale-angular.ensures,
      c.uas.ensures,
      c.linear_scale-linear.ensures,
      c.mm.ensures,
    )
