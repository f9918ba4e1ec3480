-- The step's line, its entry and its fields, one after another. Assumes nothing.
use Rattle.text.proofs.Laws.{then}
use Rattle.show.specs.Show.{step_text}
use Rattle.show.proofs.put_step.Goals as goal

pub returns : goal.returns
unfolding step_text
returns c =
    rw (
      ← c.kind_at-kind.ensures,
      ← c.inverted_at-inverted.ensures,
      ← c.offset_at-offset.ensures,
      ← c.length_at-length.ensures,
    )
    (then _ _ _ (then _ _ _ c.put_line-p.ensures c.put_entry-q.ensures)
    c.put_fields.ensures)
