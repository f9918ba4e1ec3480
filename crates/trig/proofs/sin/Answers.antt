-- One case for each answer of `in_reach`. Of a number that is not zero, being below zero tells the
-- sign. Assumes nothing.
use Rattle.trig.specs.Trig.{signed_of, mirrored_of, sin_of}
use Rattle.floats.proofs.Nan.{zero_over_zero}
use Rattle.floats.proofs.Zero.{sign_of_other}
use Rattle.trig.proofs.Laws.{sine_out_of_reach, out_told}
use Rattle.trig.proofs.Reach.{given_in_reach, given_is_the_magnitude, none_out_of_reach}
use Rattle.trig.proofs.sin.Goals as goal

pub returns-then-x : goal.returns-then-x
unfolding sin_of
returns-then-x c = rw c.if-x.true

pub returns-in-Some : goal.returns-in-Some
unfolding sin_of signed_of mirrored_of
returns-in-Some c =
    let given = c.in-Some.ensures in
    let nonzero = c.if-x.false in
    rw (
      c.signed.ensures,
      c.sine.ensures,
      given_is_the_magnitude _ _ given,
      sign_of_other _ nonzero,
      nonzero,
      given_in_reach _ _ given,
    )

pub returns-in-None : goal.returns-in-None
returns-in-None c = rw (zero_over_zero, sine_out_of_reach _ (out_told _ (none_out_of_reach _ c.in-None.ensures)))
