-- One case each. Assumes nothing.
use Rattle.reach.specs.Met.{own_out}
use Rattle.reach.proofs.own_out.Goals as goal

pub returns-then-is_nan : goal.returns-then-is_nan
unfolding own_out
returns-then-is_nan c = rw (← c.is_nan.ensures, c.if-is_nan.true)

pub returns : goal.returns
unfolding own_out
returns c = rw (c.rotation_at_out.ensures, ← c.is_nan.ensures, c.if-is_nan.false)
