-- Invariant: what is left of the list goes by four, and the text so far, with the lines of what is
-- left appended, is the text with all lines appended (`Going`). A turn appends the line of the
-- first four (`next_tuple`, `going_on`). When less than four are left, no line is left either
-- (`no_tuple`, `going_ends`). The empty piece in front only brings p within the room
-- (`place_within`), and `then` joins it to the lines. Assumes nothing.
use mathlib.Core.Path.{◌≡◌}
use Rattle.text.specs.Text.{text}
use Rattle.text.proofs.Laws.{Going}
use Rattle.report.specs.Report.{tuples_text}
use Rattle.report.proofs.put_tuples.Given as goal

abbrev pub invariant-loop-v : goal.invariant-loop-v
invariant-loop-v l =
    (l.v-iterator.size ≡ 4) × Going (text l.initial.room l.initial.p) (tuples_text l.list) (text l.room l.p) (tuples_text l.v-iterator.rest.now)
