-- Invariant: the text so far, with the lines of the changes from i on appended, is the text with all
-- n lines appended (`Going`, `lines_from`). A turn appends change i, which stands at 3 i
-- (`next_line`, `going_on`). With no change left nothing is left to append (`no_line`,
-- `going_ends`). The empty piece in front only brings p within the room (`place_within`), and
-- `then` joins it to the lines. Assumes nothing.
use Prim.Native.Nat.{◌*◌, ◌-◌, ◌≤◌}
use Rattle.text.specs.Text.{text}
use Rattle.text.proofs.Laws.{Going}
use Rattle.rescue_text.specs.RescueText.{lines_from}
use Rattle.rescue_text.proofs.put_changes.Given as goal

abbrev pub invariant-loop-i : goal.invariant-loop-i
invariant-loop-i l = (l.i ≤ l.n) × Going (text l.initial.room l.initial.p) (lines_from l.list l.n 0) (text l.room l.p) (lines_from l.list (l.n - l.i) (3 * l.i))
