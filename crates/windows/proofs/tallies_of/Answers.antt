use mathlib.Core.Path.{refl}
use Rattle.windows.proofs.Steps.{absent_standing, read_start, read_again, read_end}
use borrow.Author.Rules.{rules}
use Rattle.windows.proofs.tallies_of.Goals as goal

pub loop-i-init : goal.loop-i-init
loop-i-init c = rw c.none-tallies.ensures (read_start _)

pub loop-i-preserved : goal.loop-i-preserved
loop-i-preserved c = read_again absent_standing c.loop-i-test.true (search rules) refl c.loop-i.invariant

pub returns : goal.returns
returns c = read_end (search rules) (search rules) c.loop-i.invariant
