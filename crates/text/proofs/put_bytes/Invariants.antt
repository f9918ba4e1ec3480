-- Invariant: the text so far, with the bytes that are still to come appended, is the text with all
-- bytes appended (`Going`); at the start `place` is brought within the room, which changes nothing
-- (`going_starts`). A turn appends one byte, the first of the rest (`drop-cons`, `going_on`). At
-- the end nothing is left (`going_ends`). Assumes nothing.
use Prim.Native.Nat.{◌≤◌}
use lib.ListN.{length, drop}
use Rattle.text.specs.Text.{text}
use Rattle.text.proofs.Laws.{Going}
use Rattle.text.proofs.put_bytes.Given as goal

abbrev pub invariant-loop-b : goal.invariant-loop-b
invariant-loop-b l = (l.b-index ≤ length l.bytes) × Going (text l.initial.room l.at) l.bytes (text l.room l.place) (drop l.b-index l.bytes)
