-- The two branches are `head_line`'s own. Assumes nothing.
use borrow.Author.Tests.{lt-ltb, le-ltb}
use Rattle.text.proofs.Laws.{then}
use Rattle.show.specs.Show.{head_line}
use Rattle.show.proofs.put_head_word.Goals as goal

pub returns-then-s-offset : goal.returns-then-s-offset
unfolding head_line
returns-then-s-offset c = rw (lt-ltb _ _ c.if-s-offset.true) (then _ _ _ c.put_bytes-p.ensures c.put_bytes.ensures)

pub returns : goal.returns
unfolding head_line
returns c = rw (le-ltb _ _ c.if-s-offset.false, ← c.read32.ensures) c.put_word.ensures
