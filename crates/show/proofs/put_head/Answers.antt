-- The header's four words, one after another. Assumes nothing.
use Rattle.text.proofs.Laws.{then}
use Rattle.show.specs.Show.{head_text}
use Rattle.show.proofs.put_head.Goals as goal

pub returns : goal.returns
unfolding head_text
returns c =
    then _ _ _
    (then _ _ _
    (then _ _ _ c.put_head_word-p.ensures c.put_head_word-q.ensures)
    c.put_head_word-r.ensures)
    c.put_head_word.ensures
