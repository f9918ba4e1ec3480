-- A closure report as a page that a mate reads: counts, the largest difference of each coordinate
-- as a figure with its bits and its fix, and two numbers to say over the radio; or the refusal in
-- words.
use Rattle.std.specs.Prelude.{ℕ, zero, suc, ◌+◌, ◌*◌, ◌-◌, ◌/◌, ◌%◌, Bool, not, cond, ◌||◌, ◌&&◌, List, [], ◌∷◌, ◌++◌, eqb, leb, length, get_or, Float}
use Rattle.std.specs.Float.Ieee.{lt}
use Rattle.floats.specs.Binary64.{◌⊗◌, bits}
use Rattle.decimal.specs.Places.{ten_to, two_to52, whole_of}
use Rattle.text.specs.Ascii.{ascii}
use Rattle.text.specs.Digits.{decimal_of, hex_of}
use Rattle.show.specs.Show.{rule_text, told_text}
use Rattle.closure_report.specs.declared.Largest.{Largest}
use Rattle.closure_report.specs.declared.Report.{Report}
use Rattle.closure_report.specs.Report.{numbers_of}

-- ---- a figure

-- how many of n decimal places, from k on, it takes until the whole number nearest to x·10^k has
-- four digits; all of them where it never has
unfoldable pub places_from : ℕ → ℕ → Float → ℕ
places_from zero k x = k
places_from (suc n) k x = cond (leb 1000 (whole_of (x ⊗ ten_to k))) k (places_from n (k + 1) x)

unfoldable pub three_text : ℕ → List ℕ
three_text d = (48 + d / 100 % 10) ∷ (48 + d / 10 % 10) ∷ (48 + d % 10) ∷ []

-- 10^(3 - k)
unfoldable pub power_text : ℕ → List ℕ
power_text k = cond (leb k 3) (ascii "e" ++ decimal_of (3 - k)) (ascii "e-" ++ decimal_of (k - 3))

-- d / 10^k, as in "5.551e-17" of 5551 and 20
unfoldable pub four_text : ℕ → ℕ → List ℕ
four_text d k = decimal_of (d / 1000) ++ ascii "." ++ three_text d ++ power_text k

unfoldable pub below_text : Float → List ℕ
below_text x = four_text (whole_of (x ⊗ ten_to (places_from 22 0 x))) (places_from 22 0 x)

-- the number with these bits to four digits; 22 decimal places at most
unfoldable pub figure_text : ℕ → List ℕ
figure_text pattern =
    cond (eqb pattern 0) (ascii "0") (cond (lt (bits pattern) two_to52) (below_text (bits pattern)) (ascii "4.503e15 or more"))

-- ---- a coordinate

unfoldable pub place_text : Largest → List ℕ
place_text w = ascii " bits " ++ hex_of w.bits ++ ascii " at list " ++ decimal_of w.list ++ ascii " index " ++ decimal_of w.index ++ ascii "\n"

unfoldable pub largest_text : List ℕ → List ℕ → Largest → List ℕ
largest_text name unit w = name ++ figure_text w.bits ++ unit ++ place_text w

-- ---- the radio

-- one word of 32 bits more, modulo the largest prime below 10^8
unfoldable pub heard_of : ℕ → ℕ → ℕ
heard_of c word = (c * 4294967296 + word) % 99999989

-- numbers of 64 bits, the upper half of each first
unfoldable pub check_from : ℕ → List ℕ → ℕ
check_from c [] = c
check_from c (n ∷ l) = check_from (heard_of (heard_of c (n / 4294967296)) (n % 4294967296)) l

-- the report's sixteen numbers as one number of 1,024 bits, modulo that prime
abbrev pub check_of : Report → ℕ
check_of r = check_from 0 (numbers_of r)

-- as two numbers below 10,000
unfoldable pub radio_text : ℕ → List ℕ
radio_text c = ascii "say " ++ decimal_of (c / 10000) ++ ascii " " ++ decimal_of (c % 10000) ++ ascii "\n"

-- ---- the page

-- a line of a name and a number
unfoldable pub count_text : List ℕ → ℕ → List ℕ
count_text name n = name ++ decimal_of n ++ ascii "\n"

unfoldable pub counts_text : Report → List ℕ
counts_text r =
    count_text (ascii "lists ") r.lists
    ++ count_text (ascii "fixes ") r.tuples
    ++ count_text (ascii "with a NaN at start or end ") r.nans
    ++ count_text (ascii "restored bit for bit ") r.restored

-- the unit of the first two coordinates
unfoldable pub unit_text : Bool → List ℕ
unit_text angles = cond angles (ascii " rad") (ascii " m")

unfoldable pub coordinates_text : Bool → Report → List ℕ
coordinates_text angles r =
    largest_text (ascii "first ") (unit_text angles) r.x
    ++ largest_text (ascii "second ") (unit_text angles) r.y
    ++ largest_text (ascii "third ") (ascii " m") r.z
    ++ largest_text (ascii "time ") (ascii " year") r.t

unfoldable pub page_text : Bool → Report → List ℕ
page_text angles r = counts_text r ++ ascii "largest difference of the others\n" ++ coordinates_text angles r ++ radio_text (check_of r)

-- ---- a refusal

unfoldable pub refusal_words : ℕ → List ℕ
refusal_words n =
    cond (eqb n 25) (ascii "outside the profile that was asked for\n")
    (cond (eqb n 16) (ascii "a bad job\n")
    (cond (eqb n 9) (ascii "list not of whole tuples, or over 2,048\n")
    (cond (eqb n 10) (ascii "velocities or marks of wrong length, or a mark over 1\n") (rule_text n))))

unfoldable pub refused_text : ℕ → ℕ → List ℕ
refused_text number step = told_text number step (refusal_words number)

-- ---- what a job asks for

-- whether the first two coordinates of a list are angles, by the first step: cart, Molodensky and
-- permtide take longitude and latitude; Helmert, kind 6, deformation and a cart step turned round do
-- not
unfoldable pub takes_angles : ℕ → ℕ → Bool
takes_angles kind inverted = (eqb kind 2 && not (eqb inverted 1)) || eqb kind 3 || eqb kind 4

-- the five letters of "chart"
unfoldable pub is_chart : List ℕ → Bool
is_chart word =
    eqb (length word) 5
    && eqb (get_or word 0 0) 99
    && eqb (get_or word 1 0) 104
    && eqb (get_or word 2 0) 97
    && eqb (get_or word 3 0) 114
    && eqb (get_or word 4 0) 116

-- no word asks for no profile, the word chart for the chart's, any other for one that nobody knows
unfoldable pub profile_asked : List ℕ → ℕ
profile_asked word = cond (eqb (length word) 0) 0 (cond (is_chart word) 1 2)
