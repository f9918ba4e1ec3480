-- Document 02's rules of a grid by their numbers: `refusal17` and `refusal18` say when the rule of
-- that number is broken. The answer is the first that is broken, 17 before 18, and 0 where neither
-- is.
use Rattle.std.specs.Prelude.{ℕ, zero, suc, min, Bool, true, not, cond, ◌&&◌, ◌||◌, List, [], ◌∷◌, Result, Ok, Err, eqb, leb, ltb, length, Float}
use Rattle.std.specs.Float.Ieee.{lt}
use Rattle.std.specs.Float.Ieee.Scale.{finite}
use Rattle.floats.specs.Binary64.{bits}
use Rattle.grid_rules.specs.Layout.{row_count_of, column_count_of, latitude_spacing_of, longitude_spacing_of, grid_length_of, number_of, numbers_of}

-- a count is 2 to 64
abbrev pub count_in_rule : ℕ → Bool
count_in_rule n = leb 2 n && leb n 64

-- the grid's layout: fewer than 8 bytes, a count outside 2 to 64, or another length than the counts
-- say
unfoldable pub refusal17 : List ℕ → Bool
refusal17 s =
    ltb (length s) 8
    || not (count_in_rule (row_count_of s))
    || not (count_in_rule (column_count_of s))
    || not (eqb (length s) (grid_length_of (row_count_of s) (column_count_of s)))

-- the first k numbers after the two counts are finite
unfoldable pub finite_to : List ℕ → ℕ → Bool
finite_to s zero = true
finite_to s (suc k) = finite_to s k && finite (number_of s k)

-- a spacing is positive: neither zero is
abbrev pub above_zero : Float → Bool
above_zero x = lt (bits 0) x

-- a number of the grid not finite, or a spacing not positive
unfoldable pub refusal18 : List ℕ → Bool
refusal18 s =
    not (finite_to s (numbers_of s))
    || not (above_zero (latitude_spacing_of s))
    || not (above_zero (longitude_spacing_of s))

-- a rule in its place: its number, and whether it is broken
pub record Rule : Type 0 where
  pub number : ℕ
  pub broken : Bool

abbrev pub rule : ℕ → Bool → Rule
rule number broken = record { number = number; broken = broken }

-- the order
abbrev pub grid_order : List ℕ → List Rule
grid_order s = rule 17 (refusal17 s) ∷ rule 18 (refusal18 s) ∷ []

-- the number of the first rule that is broken
unfoldable pub first_broken : List Rule → ℕ
first_broken [] = 0
first_broken (r ∷ rules) = cond r.broken r.number (first_broken rules)

-- the answer for a grid's bytes: 0, 17 or 18
unfoldable pub check_grid_of : List ℕ → ℕ
check_grid_of s = first_broken (grid_order s)

-- what a function answers by such a number: nothing where it is 0, else the number as an error
abbrev pub unless_broken : ℕ → Result Unit ℕ
unless_broken number = cond (eqb number 0) (Ok tt) (Err number)

-- ---- places

-- the byte that rule 17 is about: where bytes that hold no counts end; a count out of rule; else
-- where the bytes end, or should
unfoldable pub layout_place : List ℕ → ℕ
layout_place s =
    cond (ltb (length s) 8) (length s)
    (cond (not (count_in_rule (row_count_of s))) 0
    (cond (not (count_in_rule (column_count_of s))) 4
    (min (length s) (grid_length_of (row_count_of s) (column_count_of s)))))
