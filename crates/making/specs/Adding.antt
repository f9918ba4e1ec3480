-- A step added at the end of the sheet that stands at a room's start.
use Rattle.std.specs.Prelude.{ℕ, ◌+◌, cond, List, eqb, ltb, length, take, set}
use Rattle.bodies.specs.declared.Step.{Step}
use Rattle.sheet.specs.declared.Entry.{Entry}
use Rattle.sheet.specs.declared.Sheet.{Sheet}
use Rattle.sheet.specs.declared.Refusal.{Refusal}
use Rattle.sheet.specs.Layout.{total_length_of, blank_sheet}
use Rattle.sheet.specs.Rules.{accepted, of_call, Reading, reading_of}
use Rattle.sheet_writer.specs.Rules.{writer_refusal_of, room_after_of}

-- ---- what stands there

abbrev pub reading_as : Refusal → Sheet → Reading
reading_as refusal sheet = record { refusal = refusal; sheet = sheet }

-- The first `len` bytes of the room as a sheet. Of length 0 it is the record with no step; a length
-- past the room's end is refused by 1, as of a sheet cut short.
unfoldable pub standing_of : List ℕ → ℕ → Reading
standing_of room len =
    cond (eqb len 0) (reading_as accepted blank_sheet)
    (cond (ltb (length room) len) (reading_as (of_call 1) blank_sheet)
    (reading_of (take len room)))

-- ---- the step added

abbrev pub entry_as : ℕ → Step → Entry
entry_as inverted step = record { inverted = inverted; step = step }

-- the record with one step more at the end; a seventeenth has no place, and the count alone tells
-- of it
unfoldable pub with_step_of : Sheet → ℕ → Step → Sheet
with_step_of sheet inverted step =
    record {
      count = sheet.count + 1;
      entries = cond (ltb sheet.count 16) (set sheet.entries sheet.count (entry_as inverted step)) sheet.entries;
    }

-- a refusal and the length as it was, or none and the sheet's new length
pub record Added : Type 0 where
  pub refusal : Refusal
  pub length : ℕ

-- what a call answers, and the room afterwards
pub record AddOutcome : Type 0 where
  pub answer : Added
  pub room : List ℕ

abbrev pub outcome : Added → List ℕ → AddOutcome
outcome answer room = record { answer = answer; room = room }

abbrev pub added_as : Refusal → ℕ → Added
added_as refusal length = record { refusal = refusal; length = length }

-- the writer's answer to a record; the length is what the header then tells, and on refusal what it
-- was
unfoldable pub written_as : Sheet → List ℕ → ℕ → AddOutcome
written_as sheet room len =
    let refusal = writer_refusal_of sheet (length room) in
    let after = room_after_of sheet room in
    outcome (added_as refusal (cond (eqb refusal.number 0) (total_length_of after) len)) after

-- the reader's refusal of what stands there, with nothing touched; else the writer's answer to the
-- record with the step added
unfoldable pub added_of : List ℕ → ℕ → ℕ → Step → AddOutcome
added_of room len inverted step =
    let standing = standing_of room len in
    cond (eqb standing.refusal.number 0)
    (written_as (with_step_of standing.sheet inverted step) room len)
    (outcome (added_as standing.refusal len) room)
