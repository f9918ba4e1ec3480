-- Invariant: the text so far, with the steps from i on appended, is the text with all n steps
-- appended (`Going`, `steps_text`). A turn appends step i (`next_step`, `going_on`). With no step
-- left nothing is left to append (`no_step`, `going_ends`). The empty piece in front only brings p
-- within the room (`place_within`), and `then` joins it to the steps. Assumes nothing.
use Prim.Native.Nat.{◌-◌, ◌≤◌}
use Rattle.text.specs.Text.{text}
use Rattle.text.proofs.Laws.{Going}
use Rattle.show.specs.Show.{steps_text}
use Rattle.show.proofs.put_steps.Given as goal

abbrev pub invariant-loop-i : goal.invariant-loop-i
invariant-loop-i l = (l.i ≤ l.n) × Going (text l.initial.room l.initial.p) (steps_text l.s l.n 0) (text l.room l.p) (steps_text l.s (l.n - l.i) l.i)
