-- By `differs_exactly_if_nan`. Assumes nothing.
use Rattle.floats.proofs.Nan.{differs_exactly_if_nan}
use Rattle.floats.proofs.is_nan.Goals as goal

pub returns : goal.returns
returns c = differs_exactly_if_nan c.args.x
