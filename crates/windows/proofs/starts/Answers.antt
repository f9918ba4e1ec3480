use Rattle.windows.proofs.Steps.{started_none, started-again, started-end}
use borrow.Author.Rules.{rules}
use Rattle.windows.proofs.starts.Goals as goal

pub loop-i-init : goal.loop-i-init
loop-i-init c = rw c.no_standing-standings.ensures (started_none _ _)

pub loop-i-preserved : goal.loop-i-preserved
loop-i-preserved c = started-again c.requires c.loop-i-test.true c.at_start.ensures c.loop-i.invariant

pub returns : goal.returns
returns c = started-end c.requires (search rules) c.loop-i.invariant
