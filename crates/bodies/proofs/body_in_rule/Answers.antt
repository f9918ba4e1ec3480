-- By `five_lowest`, from what the calls ensure. Assumes nothing.
use mathlib.Core.Path.{sym}
use Rattle.bodies.proofs.Laws.{five_lowest, some_is_five}
use Rattle.bodies.proofs.body_in_rule.Goals as goal

pub returns : goal.returns
returns c = rw (c.ne.ensures, c.lowest_broken.ensures, some_is_five) (sym (five_lowest _ _))
