-- One case for each way through the tests. Each by `one_over_zero`, from what the calls ensure.
-- Assumes nothing.
use Rattle.arctan.specs.Arctan.{angle_of}
use Rattle.arctan.proofs.Parts.{one_over_zero}
use Rattle.arctan.proofs.angle.Goals as goal

pub returns-then-b : goal.returns-then-b
unfolding angle_of
returns-then-b c = rw (c.along.ensures, c.negative-left.ensures, c.if-b.true)

pub returns-then-a : goal.returns-then-a
unfolding angle_of
returns-then-a c = rw (c.if-b.false, (rw c.abs-a.ensures at c.if-a.true))

pub returns-then-a-infinity : goal.returns-then-a-infinity
unfolding angle_of
returns-then-a-infinity c = rw (c.diagonal.ensures, c.negative-left.ensures, c.if-b.false, (rw c.abs-a.ensures at c.if-a.false), (rw one_over_zero at c.if-b-infinity.true), (rw (one_over_zero, c.abs-a.ensures) at c.if-a-infinity.true))

pub returns-then-b-infinity : goal.returns-then-b-infinity
unfolding angle_of
returns-then-b-infinity c = rw (c.if-b.false, (rw c.abs-a.ensures at c.if-a.false), (rw one_over_zero at c.if-b-infinity.true), (rw (one_over_zero, c.abs-a.ensures) at c.if-a-infinity.false))

pub returns-then-a-infinity-2 : goal.returns-then-a-infinity-2
unfolding angle_of
returns-then-a-infinity-2 c = rw (c.along-then-a-infinity-2.ensures, c.negative-left.ensures, c.if-b.false, (rw c.abs-a.ensures at c.if-a.false), (rw one_over_zero at c.if-b-infinity.false), (rw (one_over_zero, c.abs-a.ensures) at c.if-a-infinity-2.true))

pub returns : goal.returns
unfolding angle_of
returns c = rw (c.inside.ensures, c.negative-left.ensures, c.abs-a.ensures, c.if-b.false, (rw c.abs-a.ensures at c.if-a.false), (rw one_over_zero at c.if-b-infinity.false), (rw (one_over_zero, c.abs-a.ensures) at c.if-a-infinity-2.false))
