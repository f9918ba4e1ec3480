-- The lines of a sheet that is shown: a name, what stands at a place, its unit.
use Rattle.std.specs.Prelude.{ℕ, ◌+◌, Bool, cond, List, [], ◌++◌, eqb}
use Rattle.std.specs.Float.{binary64}
use Rattle.std.specs.Float.Ieee.{to_bits}
use Rattle.words.specs.Words.{word32, number_at}
use Rattle.helmert.specs.Units.{winner_of}
use Rattle.ellipsoid.specs.Figure.{axes_of}
use Rattle.text.specs.Ascii.{ascii}
use Rattle.figures.specs.Figures.{number_text, number_at_text, time_at_text, word_at_text}
use Rattle.lines.specs.declared.Unit.{Unit}
use Rattle.lines.specs.declared.Unit.TheVariants.{Plain, Metre, Millimetre, Arcsecond, MicroArcsecond, Ppm}

-- ---- units

unfoldable pub unit_text : Unit → List ℕ
unit_text Plain = []
unit_text Metre = ascii " m"
unit_text Millimetre = ascii " mm"
unit_text Arcsecond = ascii " arcsec"
unit_text MicroArcsecond = ascii " micro-arcsec"
unit_text Ppm = ascii " ppm"

-- the end of a line: the unit, of a rate the unit a year
unfoldable pub end_text : Unit → Bool → List ℕ
end_text unit rate = unit_text unit ++ cond rate (ascii "/year\n") (ascii "\n")

-- ---- words

-- a word
unfoldable pub word_line : List ℕ → List ℕ → ℕ → List ℕ
word_line name s place = name ++ word_at_text s place ++ ascii "\n"

-- a flag, on or off
unfoldable pub flag_text : List ℕ → Bool → List ℕ
flag_text name on = name ++ cond on (ascii "yes") (ascii "no")

-- ---- numbers

-- a number and its unit
unfoldable pub one_line : List ℕ → List ℕ → ℕ → Unit → Bool → List ℕ
one_line name s place unit rate = name ++ number_at_text s place ++ end_text unit rate

-- three numbers and their unit
unfoldable pub three_line : List ℕ → List ℕ → ℕ → Unit → Bool → List ℕ
three_line name s place unit rate =
    name
    ++ number_at_text s place
    ++ ascii " "
    ++ number_at_text s (place + 8)
    ++ ascii " "
    ++ number_at_text s (place + 16)
    ++ end_text unit rate

-- a time in years, or "not given"
unfoldable pub time_line : List ℕ → List ℕ → ℕ → List ℕ
time_line name s place = name ++ time_at_text s place ++ ascii "\n"

-- ---- which of two is in force

-- a single that is not zero wins over its series place
unfoldable pub winner_text : List ℕ → ℕ → ℕ → List ℕ
winner_text s single series = number_text (to_bits binary64 (winner_of (number_at s single) (number_at s series)))

unfoldable pub one_in_force : List ℕ → ℕ → ℕ → Unit → Bool → List ℕ
one_in_force s single series unit rate = ascii "    in force: " ++ winner_text s single series ++ end_text unit rate

unfoldable pub three_in_force : List ℕ → ℕ → ℕ → Unit → Bool → List ℕ
three_in_force s singles series unit rate =
    ascii "    in force: "
    ++ winner_text s singles series
    ++ ascii " "
    ++ winner_text s (singles + 8) (series + 8)
    ++ ascii " "
    ++ winner_text s (singles + 16) (series + 16)
    ++ end_text unit rate

-- a series of three and then its singles
unfoldable pub series_lines : List ℕ → List ℕ → List ℕ → ℕ → ℕ → Unit → Bool → List ℕ
series_lines name singles_name s series singles unit rate =
    three_line name s series unit rate ++ three_line singles_name s singles unit rate ++ three_in_force s singles series unit rate

-- a single and then its series place
unfoldable pub single_lines : List ℕ → List ℕ → List ℕ → ℕ → ℕ → Unit → Bool → List ℕ
single_lines name series_name s single series unit rate =
    one_line name s single unit rate ++ one_line series_name s series unit rate ++ one_in_force s single series unit rate

-- ---- the table of ellipsoids

abbrev pub axes_text : ℕ → List ℕ
axes_text n = ascii ", a " ++ number_text (to_bits binary64 (axes_of n).a) ++ ascii " m, 1/f " ++ number_text (to_bits binary64 (axes_of n).rf) ++ ascii "\n"

-- its name, and the a and 1/f of the table
unfoldable pub ellipsoid_text : ℕ → List ℕ
ellipsoid_text n =
    cond (eqb n 1) (ascii " GRS80" ++ axes_text 1)
    (cond (eqb n 2) (ascii " WGS84" ++ axes_text 2)
    (cond (eqb n 3) (ascii " International 1924" ++ axes_text 3)
    (cond (eqb n 4) (ascii " Bessel 1841" ++ axes_text 4)
    (cond (eqb n 5) (ascii " Krassowsky 1940" ++ axes_text 5)
    (cond (eqb n 0) (ascii " none\n") (ascii " not in the table\n"))))))

unfoldable pub ellipsoid_line : List ℕ → List ℕ → ℕ → List ℕ
ellipsoid_line name s place = name ++ word_at_text s place ++ ellipsoid_text (word32 s place)
