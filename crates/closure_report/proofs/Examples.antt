-- Known reports, evaluated. Numbers stand by their bits: 1 is 3ff0000000000000, 2 is
-- 4000000000000000, -0 is 8000000000000000. Assumes nothing.
use mathlib.Core.Path.{◌≡◌, refl}
use mathlib.Core.List.{List, [], ◌∷◌, ◌++◌}
use mathlib.Core.Bool.{true, false}
use lib.Ieee.{Float, nan, inf, of_bits, to_bits, sub, round, size, is_nan}
use Rattle.floats.specs.Binary64.{bits}
use Rattle.floats.specs.Number.{sign_of, same_of}
use Rattle.lists.specs.Flat.{tuple_at}
use Rattle.closure_report.specs.Report.{lost_of, restored_of, difference_of, some_left, larger_of, lost_in, restored_in, left_in, seen_of, fixes_of, seen_all, list_done, added_of, rolled_of, empty_report, numbers_of}

abbrev same : List Float
same = bits 0 ∷ bits 0 ∷ bits 0 ∷ bits 0 ∷ []

-- Tuple 0 is restored, and tuple 1 is off by 1 in x alone. The other coordinates differ by 0 at
-- tuple 1, the first of the rest, and not at tuple 0.
pub off_in_one_coordinate : numbers_of (added_of empty_report (same ++ (bits 0x3ff0000000000000 ∷ bits 0 ∷ bits 0 ∷ bits 0 ∷ [])) (same ++ (bits 0x4000000000000000 ∷ bits 0 ∷ bits 0 ∷ bits 0 ∷ [])))
    ≡ 1 ∷ 2 ∷ 0 ∷ 1 ∷ 0x3ff0000000000000 ∷ 0 ∷ 1 ∷ 0 ∷ 0 ∷ 1 ∷ 0 ∷ 0 ∷ 1 ∷ 0 ∷ 0 ∷ 1 ∷ []
unfolding numbers_of added_of list_done seen_all fixes_of seen_of lost_of restored_of difference_of some_left larger_of lost_in restored_in left_in tuple_at same_of sign_of of_bits to_bits sub round size is_nan
off_in_one_coordinate = refl

-- A NaN at the start alone, and one that comes back as it was: both are counted there and nowhere
-- else, and nothing is left.
pub nan-counted-only-there : numbers_of (added_of empty_report (nan ∷ bits 0 ∷ bits 0 ∷ bits 0 ∷ nan ∷ bits 0 ∷ bits 0 ∷ bits 0 ∷ []) (bits 0 ∷ bits 0 ∷ bits 0 ∷ bits 0 ∷ nan ∷ bits 0 ∷ bits 0 ∷ bits 0 ∷ []))
    ≡ 1 ∷ 2 ∷ 2 ∷ 0 ∷ 0 ∷ 0 ∷ 0 ∷ 0 ∷ 0 ∷ 0 ∷ 0 ∷ 0 ∷ 0 ∷ 0 ∷ 0 ∷ 0 ∷ []
unfolding numbers_of added_of list_done seen_all fixes_of seen_of lost_of restored_of difference_of some_left larger_of lost_in restored_in left_in tuple_at same_of sign_of of_bits to_bits sub round size is_nan
nan-counted-only-there = refl

-- -0 that comes back as +0 is not restored, and differs by 0. An infinity that comes back is.
pub zeros_differ_by_sign : numbers_of (added_of empty_report (same ++ (bits 0x8000000000000000 ∷ inf true ∷ bits 0 ∷ bits 0 ∷ [])) (same ++ (bits 0 ∷ inf true ∷ bits 0 ∷ bits 0 ∷ [])))
    ≡ 1 ∷ 2 ∷ 0 ∷ 1 ∷ 0 ∷ 0 ∷ 1 ∷ 0 ∷ 0 ∷ 1 ∷ 0 ∷ 0 ∷ 1 ∷ 0 ∷ 0 ∷ 1 ∷ []
unfolding numbers_of added_of list_done seen_all fixes_of seen_of lost_of restored_of difference_of some_left larger_of lost_in restored_in left_in tuple_at same_of sign_of of_bits to_bits sub round size is_nan
zeros_differ_by_sign = refl

-- Two lists with the same difference: the earliest stands, in list 0. A number that comes back
-- infinite differs by an infinity.
pub earliest_on_ties : numbers_of (rolled_of empty_report (record { start = same; end = bits 0x3ff0000000000000 ∷ inf false ∷ bits 0 ∷ bits 0 ∷ [] } ∷ record { start = same; end = bits 0x3ff0000000000000 ∷ inf true ∷ bits 0 ∷ bits 0 ∷ [] } ∷ []))
    ≡ 2 ∷ 2 ∷ 0 ∷ 0 ∷ 0x3ff0000000000000 ∷ 0 ∷ 0 ∷ 0x7ff0000000000000 ∷ 0 ∷ 0 ∷ 0 ∷ 0 ∷ 0 ∷ 0 ∷ 0 ∷ 0 ∷ []
unfolding numbers_of rolled_of added_of list_done seen_all fixes_of seen_of lost_of restored_of difference_of some_left larger_of lost_in restored_in left_in tuple_at same_of sign_of of_bits to_bits sub round size is_nan
earliest_on_ties = refl
