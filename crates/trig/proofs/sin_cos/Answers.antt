-- One case for each answer of `in_reach`. Of a number that is not zero, being below zero tells the
-- sign. Assumes nothing.
use Rattle.trig.specs.Trig.{signed_of, mirrored_of, sin_of, cos_of, out_of_reach, angle_of}
use Rattle.floats.proofs.Zero.{sign_of_other}
use Rattle.trig.proofs.Laws.{zero_in_reach}
use Rattle.trig.proofs.Reach.{given_in_reach, given_is_the_magnitude, none_out_of_reach}
use Rattle.trig.proofs.sin_cos.Goals as goal

pub returns-then-x : goal.returns-then-x
unfolding angle_of out_of_reach sin_of cos_of
returns-then-x c = rw (zero_in_reach _ c.if-x.true, c.if-x.true)

pub returns-in_err-in_reach : goal.returns-in_err-in_reach
unfolding angle_of
returns-in_err-in_reach c = rw (c.from_residual.ensures, none_out_of_reach _ c.in_err-in_reach.ensures)

pub returns : goal.returns
unfolding angle_of out_of_reach sin_of cos_of signed_of mirrored_of
returns c =
    let given = c.in_ok-in_reach.ensures in
    let nonzero = c.if-x.false in
    rw (
      c.signed.ensures,
      c.pair-p.ensures,
      given_is_the_magnitude _ _ given,
      sign_of_other _ nonzero,
      nonzero,
      given_in_reach _ _ given,
    )
