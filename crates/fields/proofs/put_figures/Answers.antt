-- By `then`, from what the calls ensure. Assumes nothing.
use Rattle.text.proofs.Laws.{then}
use Rattle.fields.specs.Fields.{figures_text}
use Rattle.fields.proofs.Flags.{molodensky}
use Rattle.fields.proofs.put_figures.Goals as goal

pub returns : goal.returns
unfolding figures_text
returns c = rw (← c.word_in-flags.ensures) (then _ _ _ (then _ _ _ (then _ _ _ (rw (molodensky _) at c.put_flags-p.ensures) c.put_ellipsoid-q.ensures) c.put_ellipsoid-r.ensures) c.put_word.ensures)
