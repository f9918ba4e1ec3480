-- By `itself_less_itself`. Assumes nothing.
use Rattle.floats.proofs.Zero.{itself_less_itself}
use Rattle.floats.proofs.is_finite.Goals as goal

pub returns : goal.returns
returns c = itself_less_itself c.args.x
