-- Where a sheet breaks rule 4: the byte at which the first word stands that is outside its rule.
use Rattle.std.specs.Prelude.{ℕ, zero, suc, ◌+◌, not, cond, List, eqb, ltb, length}
use Rattle.std.specs.declared.option.Option.{Option}
use Rattle.std.specs.declared.option.Option.TheVariants.{Some, None}
use Rattle.bodies.specs.Kinds.{length_of}
use Rattle.sheet.specs.Layout.{step_count_of, directory_offset_of, entry_offset, directory_end, kind_at, inverted_at, offset_at, length_at}
use Rattle.sheet.specs.Rules.{end_before}

-- An entry's word that is outside its rule, by its place in the entry: kind 0, inverted 4, body
-- length 12, body offset 8; 16 where there is none.
unfoldable pub entry_fault : List ℕ → ℕ → ℕ
entry_fault s i =
    cond (eqb (length_of (kind_at s i)) 0) 0
    (cond (ltb 1 (inverted_at s i)) 4
    (cond (not (eqb (length_at s i) (length_of (kind_at s i)))) 12
    (cond (not (eqb (offset_at s i) (end_before s i))) 8
    16)))

-- the same, or none
abbrev pub some_fault : ℕ → Option ℕ
some_fault k = cond (eqb k 16) None (Some k)

-- the first in k entries, from entry i on; where there is none the bodies do not end at the total
-- length, which stands at byte 4
unfoldable pub first_fault : List ℕ → ℕ → ℕ → ℕ
first_fault s zero i = 4
first_fault s (suc k) i = cond (eqb (entry_fault s i) 16) (first_fault s k (i + 1)) (entry_offset i + entry_fault s i)

-- directory offset not 16: byte 12; a directory outside the sheet (as every one of over 16 steps
-- is): the step count, byte 8
unfoldable pub fault_of : List ℕ → ℕ
fault_of s =
    cond (not (eqb (directory_offset_of s) 16)) 12
    (cond (ltb 16 (step_count_of s)) 8
    (cond (ltb (length s) (directory_end (step_count_of s))) 8
    (first_fault s (step_count_of s) 0)))
