-- One case for each unit. Assumes nothing.
use Rattle.closure_page.specs.Page.{unit_text}
use Rattle.closure_page.proofs.put_angle.Goals as goal

pub returns-then-angles : goal.returns-then-angles
unfolding unit_text
returns-then-angles c = rw c.if-angles.true c.put_largest.ensures

pub returns : goal.returns
unfolding unit_text
returns c = rw c.if-angles.false c.put_largest-2.ensures
