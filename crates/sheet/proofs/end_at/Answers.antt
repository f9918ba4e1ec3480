-- The sum of the entry's offset and length is where the next body starts. Assumes nothing.
use Rattle.sheet.proofs.Order.{end_next}
use Rattle.sheet.proofs.end_at.Goals as goal

pub returns : goal.returns
returns c = rw (end_next, c.wide-2.ensures.0, c.length_at.ensures, c.wide.ensures.0, c.offset_at.ensures)
