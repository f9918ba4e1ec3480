-- One case for each answer of `in_reach`. Assumes nothing.
use Rattle.trig.specs.Trig.{cos_of}
use Rattle.floats.proofs.Nan.{zero_over_zero}
use Rattle.trig.proofs.Laws.{cosine_out_of_reach, out_told}
use Rattle.trig.proofs.Reach.{given_in_reach, given_is_the_magnitude, none_out_of_reach}
use Rattle.trig.proofs.cos.Goals as goal

pub returns-then-x : goal.returns-then-x
unfolding cos_of
returns-then-x c = rw c.if-x.true

pub returns-in-Some : goal.returns-in-Some
unfolding cos_of
returns-in-Some c =
    let given = c.in-Some.ensures in
    rw (c.cosine.ensures, given_is_the_magnitude _ _ given, c.if-x.false, given_in_reach _ _ given)

pub returns-in-None : goal.returns-in-None
returns-in-None c = rw (zero_over_zero, cosine_out_of_reach _ (out_told _ (none_out_of_reach _ c.in-None.ensures)))
