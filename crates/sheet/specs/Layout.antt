-- A sheet as it is read: its header, its directory, its bodies, and the record that it stands for.
-- Steps are counted from 0 here; an answer counts them from 1.
use Rattle.std.specs.Prelude.{ℕ, zero, suc, ◌+◌, ◌*◌, List, [], ◌∷◌, cond, ltb, take, drop, replicate, get_or}
use Rattle.words.specs.Words.{word32}
use Rattle.bodies.specs.declared.Step.{Step}
use Rattle.bodies.specs.declared.Step.TheVariants.{Cart}
use Rattle.bodies.specs.Kinds.{kind_of}
use Rattle.bodies.specs.Read.{step_of, blank_step}
use Rattle.sheet.specs.declared.Entry.{Entry}
use Rattle.sheet.specs.declared.Sheet.{Sheet}

-- ---- header: form; total length; step count; directory offset

abbrev pub form_of : List ℕ → ℕ
form_of s = word32 s 0

abbrev pub total_length_of : List ℕ → ℕ
total_length_of s = word32 s 4

abbrev pub step_count_of : List ℕ → ℕ
step_count_of s = word32 s 8

abbrev pub directory_offset_of : List ℕ → ℕ
directory_offset_of s = word32 s 12

-- ---- directory, 16 bytes a step: kind; inverted; body offset; body length

-- where the entry of step i begins, after the header's 16 bytes
abbrev pub entry_offset : ℕ → ℕ
entry_offset i = 16 + 16 * i

abbrev pub kind_at : List ℕ → ℕ → ℕ
kind_at s i = word32 s (entry_offset i)

abbrev pub inverted_at : List ℕ → ℕ → ℕ
inverted_at s i = word32 s (entry_offset i + 4)

abbrev pub offset_at : List ℕ → ℕ → ℕ
offset_at s i = word32 s (entry_offset i + 8)

abbrev pub length_at : List ℕ → ℕ → ℕ
length_at s i = word32 s (entry_offset i + 12)

-- where the directory of n steps ends, and the first body starts
abbrev pub directory_end : ℕ → ℕ
directory_end n = entry_offset n

-- ---- bodies

-- the body of a step: the part of the sheet that its directory names
unfoldable pub body_at : List ℕ → ℕ → List ℕ
body_at s i = take (length_at s i) (drop (offset_at s i) s)

-- the step that its body stands for
abbrev pub step_at : List ℕ → ℕ → Step
step_at s i = step_of (kind_at s i) (body_at s i)

-- ---- the record

-- a blank cart step, forward
abbrev pub blank_entry : Entry
blank_entry = record { inverted = 0; step = blank_step }

-- no step
abbrev pub blank_sheet : Sheet
blank_sheet = record { count = 0; entries = replicate 16 blank_entry }

-- a step with its inverted word; past the step count a blank cart step
unfoldable pub entry_at : List ℕ → ℕ → Entry
entry_at s i = cond (ltb i (step_count_of s)) (record { inverted = inverted_at s i; step = step_at s i }) blank_entry

-- k entries, from step i on
unfoldable pub entries_from : List ℕ → ℕ → ℕ → List Entry
entries_from s zero i = []
entries_from s (suc k) i = entry_at s i ∷ entries_from s k (i + 1)

-- the record that a sheet stands for
unfoldable pub record_of : List ℕ → Sheet
record_of s = record { count = step_count_of s; entries = entries_from s 16 0 }

-- step i of a record; past the sixteen, where no step count in rule reaches, zeros
abbrev pub entry_of : Sheet → ℕ → Entry
entry_of sheet i = get_or sheet.entries i (record { inverted = 0; step = Cart (record { ellipsoid = 0 }) })

abbrev pub step_in : Sheet → ℕ → Step
step_in sheet i = (entry_of sheet i).step

abbrev pub kind_in : Sheet → ℕ → ℕ
kind_in sheet i = kind_of (step_in sheet i)
