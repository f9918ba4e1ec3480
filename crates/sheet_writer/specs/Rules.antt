-- The rules of a record by document 01's numbers, as the writer asks them. The order stands in
-- `writer_order`; an answer is the first that is broken.
use Rattle.std.specs.Prelude.{ℕ, List, [], ◌∷◌, ◌++◌, Bool, not, cond, eqb, ltb, length}
use Rattle.words.specs.Words.{put}
use Rattle.bodies.specs.Rules.{step_in_rule}
use Rattle.sheet.specs.declared.Refusal.{Refusal}
use Rattle.sheet.specs.declared.Sheet.{Sheet}
use Rattle.sheet.specs.Layout.{entry_of, step_in, kind_in}
use Rattle.sheet_writer.specs.Bytes.{sheet_length, sheet_bytes_of}
use Rattle.sheet.specs.Rules.{Rule, inverted_broken, some_from, rule, of_call, five_to_eight, elevens, first_broken, refusal3}

abbrev pub inverted_broken_in : Sheet → ℕ → Bool
inverted_broken_in sheet i = inverted_broken (entry_of sheet i).inverted

-- the writer's 4: an inverted word outside its rule (a record has no kind outside it)
unfoldable pub record_refusal4 : Sheet → Bool
record_refusal4 sheet = some_from (inverted_broken_in sheet) sheet.count 0

-- the writer's 5, on the fields of step i of a record
unfoldable pub record_refusal5 : Sheet → ℕ → Bool
record_refusal5 sheet i = not (step_in_rule (step_in sheet i))

-- writer: room too short
unfoldable pub refusal15 : Sheet → ℕ → Bool
refusal15 sheet room = ltb room (sheet_length sheet)

-- ---- the order

-- the writer's order: 3; inverted words by 4; then step by step 5 to 8; 11; then 15
unfoldable pub writer_order : Sheet → ℕ → List Rule
writer_order sheet room =
    rule (of_call 3) (refusal3 sheet.count)
    ∷ rule (of_call 4) (record_refusal4 sheet)
    ∷ (five_to_eight (record_refusal5 sheet) (step_in sheet) sheet.count 0
    ++ (elevens (kind_in sheet) sheet.count 0
    ++ (rule (of_call 15) (refusal15 sheet room) ∷ [])))

-- ---- the answers

-- the writer's refusal, of a record and a room's length
unfoldable pub writer_refusal_of : Sheet → ℕ → Refusal
writer_refusal_of sheet room = first_broken (writer_order sheet room)

-- the room afterwards: the sheet's bytes at its start and nothing after them touched; on refusal
-- what it held
unfoldable pub room_after_of : Sheet → List ℕ → List ℕ
room_after_of sheet room = cond (eqb (writer_refusal_of sheet (length room)).number 0) (put room 0 (sheet_bytes_of sheet)) room
