-- Invariant: the text so far, with the last `left` digits of n appended, is the text with all k
-- digits appended (`Going`, `digits_of`), and where a digit is left `worth` is what the highest of
-- them is worth; at the start `place` is brought within the room, which changes nothing
-- (`going_starts`). A turn appends that digit (`highest_first`, `going_on`) and divides `worth` by
-- the base (`next_worth`). With no digit left the text is complete (`no_digits`, `going_ends`). A
-- worth is not 0, so that dividing by it is defined (`worth_something`). Assumes nothing.
use mathlib.Core.Path.{◌≡◌}
use Prim.Native.Nat.{◌-◌, ◌^◌, ◌<◌}
use Rattle.text.specs.Text.{text}
use Rattle.text.specs.Digits.{digits_of}
use Rattle.text.proofs.Laws.{Going}
use Rattle.text.proofs.put_digits.Given as goal

abbrev pub invariant-loop-left : goal.invariant-loop-left
invariant-loop-left l = (0 < l.left → l.worth ≡ l.base ^ (l.left - 1)) × Going (text l.initial.room l.at) (digits_of l.base l.k l.n) (text l.room l.place) (digits_of l.base l.left l.n)
