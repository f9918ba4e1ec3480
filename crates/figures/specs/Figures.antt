-- A binary64 number as text: the decimal with the fewest places that reads back, or, where there is
-- none, its 64 bits.
use Rattle.std.specs.Prelude.{ℕ, ◌/◌, ◌^◌, Bool, cond, List, [], ◌++◌, eqb}
use Rattle.floats.specs.Binary64.{bits}
use Rattle.words.specs.Words.{word32, word64}
use Rattle.text.specs.Ascii.{ascii}
use Rattle.text.specs.Digits.{digits_of, hex_of}
use Rattle.text.specs.Digits.{decimal_of as whole_text}
use Rattle.decimal.specs.declared.Decimal.{Decimal}
use Rattle.std.specs.declared.option.Option.{Option}
use Rattle.std.specs.declared.option.Option.TheVariants.{Some, None}
use Rattle.decimal.specs.Places.{decimal_of}

unfoldable pub sign_text : Bool → List ℕ
sign_text negative = cond negative (ascii "-") []

-- a point and exactly k decimals; nothing where k is 0
unfoldable pub fraction_text : ℕ → ℕ → List ℕ
fraction_text digits k = cond (eqb k 0) [] (ascii "." ++ digits_of 10 k digits)

-- digits / 10^k with its sign
unfoldable pub fixed_text : Bool → ℕ → ℕ → List ℕ
fixed_text negative digits k = sign_text negative ++ whole_text (digits / 10 ^ k) ++ fraction_text digits k

unfoldable pub either_text : Option Decimal → ℕ → List ℕ
either_text (Some shown) pattern = fixed_text shown.negative shown.digits shown.places
either_text None pattern = ascii "bits 0x" ++ hex_of pattern

-- the number with these 64 bits
unfoldable pub number_text : ℕ → List ℕ
number_text pattern = either_text (decimal_of (bits pattern)) pattern

-- a time in years, or "not given" where the sheet has 7ff8000000000000
unfoldable pub time_text : ℕ → List ℕ
time_text pattern = cond (eqb pattern 0x7ff8_0000_0000_0000) (ascii "not given") (number_text pattern ++ ascii " year")

-- the number, the time, the word at a place of a sheet
abbrev pub number_at_text : List ℕ → ℕ → List ℕ
number_at_text s place = number_text (word64 s place)

abbrev pub time_at_text : List ℕ → ℕ → List ℕ
time_at_text s place = time_text (word64 s place)

abbrev pub word_at_text : List ℕ → ℕ → List ℕ
word_at_text s place = whole_text (word32 s place)
