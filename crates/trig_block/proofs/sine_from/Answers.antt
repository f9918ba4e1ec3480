-- Of a number that is not zero, being below zero tells the sign. Assumes nothing.
use Rattle.trig.specs.Trig.{signed_of, mirrored_of}
use Rattle.trig_block.specs.Block.{sin_from}
use Rattle.floats.proofs.Nan.{zero_over_zero}
use Rattle.floats.proofs.Zero.{sign_of_other}
use Rattle.trig_block.proofs.sine_from.Goals as goal

pub returns-then-x : goal.returns-then-x
unfolding sin_from
returns-then-x c = rw c.if-x.true

pub returns-then-abs : goal.returns-then-abs
unfolding sin_from signed_of mirrored_of
returns-then-abs c =
    let nonzero = c.if-x.false in
    rw (c.signed.ensures, sign_of_other _ nonzero, nonzero, ← c.abs.ensures, c.if-abs.true)

pub returns-else-abs : goal.returns-else-abs
unfolding sin_from
returns-else-abs c = rw (zero_over_zero, c.if-x.false, ← c.abs.ensures, c.if-abs.false)
