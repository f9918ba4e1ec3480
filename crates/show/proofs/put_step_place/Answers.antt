-- The two places, then the step itself. Assumes nothing.
use Rattle.text.proofs.Laws.{then}
use Rattle.show.specs.Show.{step_place}
use Rattle.show.proofs.put_step_place.Goals as goal

pub returns : goal.returns
unfolding step_place
returns c =
    let index = c.wide-index.ensures.0 in
    let body = rw index at c.offset_at-body.ensures in
    rw (← body, ← c.entry_offset-entry.ensures.0, ← index)
    (then _ _ _ (then _ _ _ c.put_line-p.ensures c.put_word-q.ensures)
    c.put_step.ensures)
