use lib.Ieee.{nan}
use Rattle.stretch.proofs.Copied.{copied_start, copied_again, copied_end}
use Rattle.stretch_results.proofs.copy.Goals as goal

pub loop-i-init : goal.loop-i-init
loop-i-init c = copied_start _ _ c.requires

pub loop-i-preserved : goal.loop-i-preserved
loop-i-preserved c = copied_again c.loop-i.invariant nan c.loop-i-test.true

pub returns : goal.returns
returns c = copied_end c.loop-i.invariant c.loop-i-test.false
