-- Steps added one after another: what each addition leaves, and the record that all of them make.
use Rattle.std.specs.Prelude.{◌≡◌, ℕ, ◌≤◌, ◌<◌, cond, List, [], ◌∷◌, eqb, length, take}
use Rattle.bodies.specs.Held.{Held}
use Rattle.sheet.specs.declared.Entry.{Entry}
use Rattle.sheet.specs.declared.Sheet.{Sheet}
use Rattle.sheet.specs.Layout.{blank_entry, entry_of}
use Rattle.sheet.specs.Rules.{accepted, refusal_of}
use Rattle.making.specs.Adding.{with_step_of, AddOutcome, outcome, added_as, added_of}

-- what an accepted addition leaves: at the room's start, and as long as it says, a sheet that is
-- accepted
pub record Sheeted (o : AddOutcome) : Type 0 where
  pub within : o.answer.length ≤ length o.room
  pub passes : refusal_of (take o.answer.length o.room) ≡ accepted

-- a record as it is read or begun: sixteen entries, blank past its step count
pub record Tidy (sheet : Sheet) : Type 0 where
  pub places : length sheet.entries ≡ 16
  pub blank : (i : ℕ) → sheet.count ≤ i → i < 16 → entry_of sheet i ≡ blank_entry

-- each added in turn, until one is refused
unfoldable pub all_added : List ℕ → ℕ → List Entry → AddOutcome
all_added room len [] = outcome (added_as accepted len) room
all_added room len (e ∷ es) =
    let first = added_of room len e.inverted e.step in
    cond (eqb first.answer.refusal.number 0) (all_added first.room first.answer.length es) first

-- a record with some steps more
unfoldable pub with_steps : Sheet → List Entry → Sheet
with_steps sheet [] = sheet
with_steps sheet (e ∷ es) = with_steps (with_step_of sheet e.inverted e.step) es

-- every step is what a computer's memory holds
pub data EachHeld : List Entry → Type 0 where
  none : EachHeld []
  next : {e : Entry} {es : List Entry} → Held e.step → EachHeld es → EachHeld (e ∷ es)
