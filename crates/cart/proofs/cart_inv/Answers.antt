-- One case for each way through the tests. Calls are replaced by what they ensure; the definition
-- is left. Assumes nothing.
use Rattle.cart.specs.Step.{cart_inv_of}
use Rattle.cart.proofs.cart_inv.Goals as goal

pub returns-then-p-k : goal.returns-then-p-k
unfolding cart_inv_of
returns-then-p-k c = rw (c.on_axis.ensures, c.atan2-lam.ensures, ← c.hypot-p.ensures, c.if-p-k.true)

pub returns : goal.returns
unfolding cart_inv_of
returns c =
    rw (
      c.counted.ensures,
      c.off_axis.ensures,
      c.atan2-lam.ensures,
      ← c.hypot-p.ensures,
      c.if-p-k.false,
    )
