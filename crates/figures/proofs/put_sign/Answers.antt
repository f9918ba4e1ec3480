-- One case for each way through the tests. Calls are replaced by what they ensure; the definition
-- is left. Assumes nothing.
use Rattle.figures.specs.Figures.{sign_text}
use Rattle.figures.proofs.put_sign.Goals as goal

pub returns-then-negative : goal.returns-then-negative
unfolding sign_text
returns-then-negative c = rw c.if-negative.true c.put_bytes.ensures

pub returns : goal.returns
unfolding sign_text
returns c = rw c.if-negative.false c.put_bytes-2.ensures
