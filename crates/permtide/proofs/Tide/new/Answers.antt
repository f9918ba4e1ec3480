-- Calls are replaced by what they ensure; the definition is left. Assumes nothing.
use Rattle.permtide.specs.Step.{tide_of}
use Rattle.permtide.proofs.Tide.new.Goals as goal

pub returns : goal.returns
unfolding tide_of
returns c = rw (c.coefficient.ensures, c.named.ensures)
