-- What Helmert makes of one tuple of a list, forward or inverse; the state that a step over a list
-- carries; and how many tuples of a list have their time. Nothing is computed here.
use Rattle.std.specs.Prelude.{ℕ, ◌+◌, Bool, true, not, cond, List, [], ◌∷◌, Float}
use Rattle.std.specs.Float.{nan}
use Rattle.std.specs.Float.Ieee.{is_nan}
use Rattle.tuple.specs.declared.Tuple.{Tuple}
use Rattle.helmert.specs.declared.Shift.{Shift}
use Rattle.helmert.specs.declared.State.{State}
use Rattle.helmert.specs.declared.Stepped.{Stepped}
use Rattle.helmert.specs.Record.{zero3}
use Rattle.helmert.specs.Modes.{step_of, counted_of}
use Rattle.lists.specs.Flat.{four_of}
use Rattle.lists.specs.Run.{Turns}

-- ---- the state: Helmert's. A step that has no T carries (NaN, +0, +0, +0) and leaves it.

abbrev pub no_state : State
no_state = record { last = nan; t = zero3 }

-- a step that sees the tuple alone, and counts every one
abbrev pub all_turns : (Tuple → Tuple) → Turns State
all_turns f k state v = record { state = state; tuple = f v; counted = true }

-- a step that hands its state on, and counts every tuple
abbrev pub stepped_turns : (State → Tuple → Stepped) → Turns State
stepped_turns f k state v = record { state = (f state v).state; tuple = (f state v).tuple; counted = true }

-- Helmert: the step by its mode, which counts every tuple save in own-epoch mode one without a time
abbrev pub helmert_turns : Bool → Shift → Turns State
helmert_turns inverse shift k state v =
    record { state = (step_of shift inverse state v).state; tuple = (step_of shift inverse state v).tuple; counted = counted_of shift v }

-- ---- how many tuples of a list there are of which p holds

abbrev pub number_of : (Tuple → Bool) → List Float → ℕ
number_of p (x ∷ y ∷ z ∷ t ∷ rest) = cond (p (four_of x y z t)) 1 0 + number_of p rest
number_of p (x ∷ y ∷ z ∷ []) = 0
number_of p (x ∷ y ∷ []) = 0
number_of p (x ∷ []) = 0
number_of p [] = 0

-- a tuple whose time is given, which is any but a NaN
abbrev pub timed_of : Tuple → Bool
timed_of v = not (is_nan v.t)
