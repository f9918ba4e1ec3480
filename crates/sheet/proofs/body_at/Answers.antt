-- The part that the entry's offset and length name. Assumes nothing.
use Rattle.sheet.specs.Layout.{body_at}
use Rattle.sheet.proofs.body_at.Goals as goal

pub returns : goal.returns
unfolding body_at
returns c = rw (c.part.ensures, c.wide-length.ensures.0, c.length_at.ensures, c.wide-offset.ensures.0, c.offset_at.ensures)
