-- What each call leaves its caller in C: the refusal as one word, and what it was lent.
use Rattle.std.specs.Prelude.{ℕ, List, Float}
use Rattle.codes.specs.Codes.{code_of}
use Rattle.tally.specs.Tallies.{counts_of}
use Rattle.chain.specs.Rules.{Outcome}
use Rattle.stretch.specs.Kept.{Kept}
use Rattle.kept.specs.Entries.{CorrectOutcome}
use Rattle.making.specs.Adding.{AddOutcome}
use Rattle.rescue.specs.Rules.{RescueOutcome}

-- what a shift leaves its caller: the code, the counts and the list
pub record Handed : Type 0 where
  pub code : ℕ
  pub counts : List ℕ
  pub list : List Float

abbrev pub handed : ℕ → List ℕ → List Float → Handed
handed code counts list = record { code = code; counts = counts; list = list }

abbrev pub handed_of : Outcome → Handed
handed_of o = handed (code_of o.answer.refusal) (counts_of o.answer.tallies) o.list

-- what a correction leaves: the code, how many fixes were redone, and the three lists
pub record Corrected : Type 0 where
  pub code : ℕ
  pub redone : ℕ
  pub kept : Kept

abbrev pub corrected : ℕ → ℕ → Kept → Corrected
corrected code redone kept = record { code = code; redone = redone; kept = kept }

abbrev pub corrected_of : CorrectOutcome → Corrected
corrected_of o = corrected (code_of o.answer.refusal) o.answer.redone o.kept

-- what adding a step leaves: the code, the sheet's length and the room
pub record Made : Type 0 where
  pub code : ℕ
  pub length : ℕ
  pub room : List ℕ

abbrev pub made : ℕ → ℕ → List ℕ → Made
made code length room = record { code = code; length = length; room = room }

abbrev pub made_of : AddOutcome → Made
made_of o = made (code_of o.answer.refusal) o.answer.length o.room

-- what a rescue leaves: the code, how many words were changed, the room and the changes
pub record Mended : Type 0 where
  pub code : ℕ
  pub changed : ℕ
  pub room : List ℕ
  pub changes : List ℕ

abbrev pub mended : ℕ → ℕ → List ℕ → List ℕ → Mended
mended code changed room changes = record { code = code; changed = changed; room = room; changes = changes }

abbrev pub mended_of : RescueOutcome → Mended
mended_of o = mended (code_of o.answer.refusal) o.answer.changed o.room o.list
