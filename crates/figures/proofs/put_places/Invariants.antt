-- Invariant (`Going`): the text as it stands, with the digits that are left appended, is the text
-- before the loop with all k digits appended. A turn writes the highest of the digits left
-- (`highest_first`), so that one fewer is left (`going_on`). With none left the text has all k
-- digits (`no_digits`, `going_ends`). Before the loop `put_bytes` writes nothing and only brings
-- the place within the room (`then`). Assumes nothing.
use Rattle.text.specs.Text.{text}
use Rattle.text.specs.Digits.{digits_of}
use Rattle.text.proofs.Laws.{Going}
use Rattle.figures.proofs.put_places.Given as goal

abbrev pub invariant-loop-left : goal.invariant-loop-left
invariant-loop-left l = Going (text l.initial.room l.initial.p) (digits_of 10 l.k l.n) (text l.room l.p) (digits_of 10 l.left l.n)
