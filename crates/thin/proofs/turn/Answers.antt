-- One case for each variant. Calls are replaced by what they ensure; the definition is left.
-- Assumes nothing.
use Rattle.thin.specs.Plans.{turn_of}
use Rattle.thin.proofs.turn.Goals as goal
use Rattle.thin.proofs.turn.Goals.{then-inverse, else-inverse}

pub returns-in-CartForward : goal.returns-in-CartForward
unfolding turn_of
returns-in-CartForward c = rw (c.in-CartForward.is, c.carried_on.ensures, c.place_out.ensures, c.cart_fwd-r.ensures)

pub returns-in-CartInverse : goal.returns-in-CartInverse
unfolding turn_of
returns-in-CartInverse c = rw (c.in-CartInverse.is, c.carried_on-in-CartInverse.ensures, c.cart_inv-r.ensures)

pub returns-after-inverse : goal.returns-after-inverse
unfolding turn_of
returns-after-inverse c =
    elim c.if-inverse.branch [
      | then-inverse w ↦ rw (c.in-PermtideEither.is, c.carried_on-in-PermtideEither.ensures, c.out_of_reach.ensures, w.v-is, w.inv-v.ensures, w.if-inverse.true)
      | else-inverse w ↦ rw (c.in-PermtideEither.is, c.carried_on-in-PermtideEither.ensures, c.out_of_reach.ensures, w.v-is, w.fwd-v.ensures, w.if-inverse.false)
    ]

pub returns-in-MolodenskyEither : goal.returns-in-MolodenskyEither
unfolding turn_of
returns-in-MolodenskyEither c = rw (c.in-MolodenskyEither.is, c.carried_on-in-MolodenskyEither.ensures, c.offsets_out.ensures, c.common-v.ensures)

pub returns-in-DeformationEither : goal.returns-in-DeformationEither
unfolding turn_of
returns-in-DeformationEither c = rw (c.in-DeformationEither.is, c.carried_on-in-DeformationEither.ensures, c.moved_met.ensures, c.common-r.ensures, c.mark_at-mark.ensures, c.velocity_at-v.ensures)

pub returns-in-HelmertEither : goal.returns-in-HelmertEither
unfolding turn_of
returns-in-HelmertEither c = rw (c.in-HelmertEither.is, c.carried_on-in-HelmertEither.ensures, c.helmert_met.ensures, c.counted-counted.ensures, c.step-r.ensures)
