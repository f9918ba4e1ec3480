-- A sheet as it is written: the bytes of a record. Header; directory, 16 bytes a step; bodies
-- without gaps, in order.
use Rattle.std.specs.Prelude.{ℕ, zero, suc, ◌+◌, List, [], ◌++◌}
use Rattle.words.specs.Words.{le32}
use Rattle.bodies.specs.Kinds.{length_of}
use Rattle.body_writer.specs.Write.{bytes_of}
use Rattle.sheet.specs.declared.Sheet.{Sheet}
use Rattle.sheet.specs.Layout.{directory_end, entry_of, step_in, kind_in}

-- the length of step i's body
abbrev pub length_in : Sheet → ℕ → ℕ
length_in sheet i = length_of (kind_in sheet i)

-- where step i's body starts: the first where the directory ends, each other where the body before
-- it ends
unfoldable pub body_start : Sheet → ℕ → ℕ
body_start sheet zero = directory_end sheet.count
body_start sheet (suc i) = body_start sheet i + length_in sheet i

-- where the last body ends
abbrev pub sheet_length : Sheet → ℕ
sheet_length sheet = body_start sheet sheet.count

-- form; total length; step count; directory offset
unfoldable pub header_bytes : Sheet → List ℕ
header_bytes sheet = le32 1 ++ le32 (sheet_length sheet) ++ le32 sheet.count ++ le32 16

-- kind; inverted; body offset; body length
unfoldable pub place_bytes : Sheet → ℕ → List ℕ
place_bytes sheet i =
    le32 (kind_in sheet i)
    ++ le32 (entry_of sheet i).inverted
    ++ le32 (body_start sheet i)
    ++ le32 (length_in sheet i)

-- the directory's first n places
unfoldable pub directory_bytes : Sheet → ℕ → List ℕ
directory_bytes sheet zero = []
directory_bytes sheet (suc n) = directory_bytes sheet n ++ place_bytes sheet n

-- the first n bodies
unfoldable pub bodies_bytes : Sheet → ℕ → List ℕ
bodies_bytes sheet zero = []
bodies_bytes sheet (suc n) = bodies_bytes sheet n ++ bytes_of (step_in sheet n)

-- the sheet's bytes
unfoldable pub sheet_bytes_of : Sheet → List ℕ
sheet_bytes_of sheet = header_bytes sheet ++ directory_bytes sheet sheet.count ++ bodies_bytes sheet sheet.count
