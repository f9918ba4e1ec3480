-- By `then`, from what the calls ensure. Assumes nothing.
use Rattle.text.proofs.Laws.{then}
use Rattle.show.specs.Show.{accepted_text}
use Rattle.show.proofs.put_accepted.Goals as goal

pub returns : goal.returns
unfolding accepted_text
returns c = rw (← c.step_count-n.ensures.0) (then _ _ _ c.put_head-p.ensures c.put_steps.ensures)
