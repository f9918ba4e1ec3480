-- The header's words below 16; from there on the step and its word, by `then`. Assumes nothing.
use borrow.Author.Tests.{lt-ltb, le-ltb}
use Rattle.text.proofs.Laws.{then}
use Rattle.rescue_text.specs.RescueText.{word_name}
use Rattle.rescue_text.proofs.put_name.Goals as goal

pub returns-then-place-lt16 : goal.returns-then-place-lt16
unfolding word_name
returns-then-place-lt16 c = rw (lt-ltb _ _ c.if-place-lt16.true) (rw c.header_name.ensures at c.put_bytes.ensures)

pub returns : goal.returns
unfolding word_name
returns c = rw (le-ltb _ _ c.if-place-lt16.false) (then _ _ _ (then _ _ _ (then _ _ _ c.put_bytes-p.ensures c.put_u32-q.ensures) c.put_bytes-r.ensures) (rw c.entry_name.ensures at c.put_bytes-2.ensures))
