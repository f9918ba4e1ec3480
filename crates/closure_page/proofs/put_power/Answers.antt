-- One case each for a power that is not negative and for one that is. Assumes nothing.
use borrow.Author.Tests.{le-leb, lt-leb}
use Rattle.text.proofs.Laws.{then}
use Rattle.closure_page.specs.Page.{power_text}
use Rattle.closure_page.proofs.put_power.Goals as goal

pub returns-then-k-le3 : goal.returns-then-k-le3
unfolding power_text
returns-then-k-le3 c = rw (le-leb _ _ c.if-k-le3.true) ((then _ _ _ c.put_bytes-p.ensures (rw c.long.ensures at c.put_decimal.ensures)))

pub returns : goal.returns
unfolding power_text
returns c = rw (lt-leb _ _ c.if-k-le3.false) ((then _ _ _ c.put_bytes-p-2.ensures (rw c.long-2.ensures at c.put_decimal-2.ensures)))
