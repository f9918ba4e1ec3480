-- Known texts, computed. Assumes nothing.
use mathlib.Core.Path.{◌≡◌, refl}
use mathlib.Core.List.{[], ◌∷◌}
use Rattle.text.specs.Text.{text, appended}
use Rattle.text.specs.Digits.{digits_of, places_of, decimal_of, hex_of}

-- `0`, `10`, `512` and the largest, `18446744073709551615`
none_of_it : decimal_of 0 ≡ 48 ∷ []
unfolding decimal_of places_of digits_of
none_of_it = refl

ten : decimal_of 10 ≡ 49 ∷ 48 ∷ []
unfolding decimal_of places_of digits_of
ten = refl

most_tuples : decimal_of 512 ≡ 53 ∷ 49 ∷ 50 ∷ []
unfolding decimal_of places_of digits_of
most_tuples = refl

largest : decimal_of 18446744073709551615
    ≡ 49 ∷ 56 ∷ 52 ∷ 52 ∷ 54 ∷ 55 ∷ 52 ∷ 52 ∷ 48 ∷ 55 ∷ 51 ∷ 55 ∷ 48 ∷ 57 ∷ 53 ∷ 53 ∷ 49 ∷ 54 ∷ 49 ∷ 53 ∷ []
unfolding decimal_of places_of digits_of
largest = refl

-- `7ff8000000000000`
not_a_number : hex_of 0x7ff8_0000_0000_0000 ≡ 55 ∷ 102 ∷ 102 ∷ 56 ∷ 48 ∷ 48 ∷ 48 ∷ 48 ∷ 48 ∷ 48 ∷ 48 ∷ 48 ∷ 48 ∷ 48 ∷ 48 ∷ 48 ∷ []
unfolding hex_of digits_of
not_a_number = refl

-- three bytes into a room of five from place 1, and from place 4, where one fits
inside : appended (text (9 ∷ 9 ∷ 9 ∷ 9 ∷ 9 ∷ []) 1) (1 ∷ 2 ∷ 3 ∷ []) ≡ text (9 ∷ 1 ∷ 2 ∷ 3 ∷ 9 ∷ []) 4
unfolding appended
inside = refl

at_the_end : appended (text (9 ∷ 9 ∷ 9 ∷ 9 ∷ 9 ∷ []) 4) (1 ∷ 2 ∷ 3 ∷ []) ≡ text (9 ∷ 9 ∷ 9 ∷ 9 ∷ 1 ∷ []) 5
unfolding appended
at_the_end = refl
