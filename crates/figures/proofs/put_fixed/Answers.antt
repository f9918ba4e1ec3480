-- By `then`, from what the calls ensure. Assumes nothing.
use Rattle.text.proofs.Laws.{then}
use Rattle.figures.specs.Figures.{fixed_text}
use Rattle.figures.proofs.put_fixed.Goals as goal

pub returns : goal.returns
unfolding fixed_text
returns c = rw (← c.over.ensures) (then _ _ _ (then _ _ _ c.put_sign-p.ensures c.put_decimal-q.ensures) c.put_fraction.ensures)
