-- The lines that the program prints.
use Rattle.std.specs.Prelude.{ℕ, ◌+◌, ◌/◌, cond, List, [], ◌∷◌, ◌++◌, eqb, length, take, get_or, Float}
use Rattle.std.specs.Float.{binary64}
use Rattle.std.specs.Float.Ieee.{to_bits}
use Rattle.text.specs.Digits.{decimal_of, hex_of}
use Rattle.text.specs.Ascii.{ascii, newline}

-- a line of two names, each with its number
unfoldable pub line_of : List ℕ → ℕ → List ℕ → ℕ → List ℕ
line_of first a second b = first ++ decimal_of a ++ second ++ decimal_of b ++ newline

-- `refused 4 step 0`
abbrev pub refused_text : ℕ → ℕ → List ℕ
refused_text number step = line_of (ascii "refused ") number (ascii " step ") step

-- `steps 1 tuples 1`
abbrev pub head_text : ℕ → ℕ → List ℕ
head_text steps tuples = line_of (ascii "steps ") steps (ascii " tuples ") tuples

-- `step 1 counted 1 out of reach 1`
unfoldable pub reach_text : ℕ → ℕ → ℕ → List ℕ
reach_text step count met =
    ascii "step " ++ decimal_of step ++ ascii " counted " ++ decimal_of count ++ ascii " out of reach " ++ decimal_of met ++ newline

-- `step 1 counted 1`; the words after it only where a tuple met an angle out of reach
abbrev pub count_text : ℕ → ℕ → ℕ → List ℕ
count_text step count met = cond (eqb met 0) (line_of (ascii "step ") step (ascii " counted ") count) (reach_text step count met)

-- a line for each count, the first being that of the step after i; what met is by the step's index
unfoldable pub counts_text : (ℕ → ℕ) → ℕ → List ℕ → List ℕ
counts_text met i [] = []
counts_text met i (c ∷ cs) = count_text (i + 1) c (met i) ++ counts_text met (i + 1) cs

-- the number at an index, 0 past the end
abbrev pub met_in : List ℕ → ℕ → ℕ
met_in mets i = get_or mets i 0

-- a number's 64 bits as 16 hexadecimal digits, and what stands after them; a NaN's are
-- 7ff8000000000000
unfoldable pub word_of : Float → ℕ → List ℕ
word_of x end = hex_of (to_bits binary64 x) ++ (end ∷ [])

-- a line for a tuple, its four words a space apart
unfoldable pub tuple_text : Float → Float → Float → Float → List ℕ
tuple_text x y z t = word_of x 32 ++ word_of y 32 ++ word_of z 32 ++ word_of t 10

-- a line for each tuple of a flat list
unfoldable pub tuples_text : List Float → List ℕ
tuples_text (x ∷ y ∷ z ∷ t ∷ rest) = tuple_text x y z t ++ tuples_text rest
tuples_text (x ∷ y ∷ z ∷ []) = []
tuples_text (x ∷ y ∷ []) = []
tuples_text (x ∷ []) = []
tuples_text [] = []

-- a run: how many steps and tuples, the numbers of each step, each tuple
unfoldable pub ran_text : ℕ → List ℕ → List ℕ → List Float → List ℕ
ran_text steps counts mets list = head_text steps (length list / 4) ++ counts_text (met_in mets) 0 (take steps counts) ++ tuples_text list
