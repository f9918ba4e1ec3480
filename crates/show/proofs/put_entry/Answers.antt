-- By `then`, from what the calls ensure. Assumes nothing.
use Rattle.text.proofs.Laws.{then}
use Rattle.show.specs.Show.{entry_text}
use Rattle.show.proofs.put_entry.Goals as goal

pub returns : goal.returns
unfolding entry_text
returns c = then _ _ _ (then _ _ _ (then _ _ _ c.put_kind-p.ensures c.put_inverted-q.ensures) c.put_word-r.ensures) c.put_word.ensures
