-- Known texts, evaluated: P1's sheet shown whole; P7, the same cut by a byte; and the same cut in
-- its header. Assumes nothing.
use mathlib.Core.Path.{◌≡◌, refl}
use mathlib.Core.List.{List, [], ◌∷◌, ◌++◌}
use Prim.Native.Nat.{ℕ}
use lib.ListN.{take}
use lib.Ieee.{of_bits, to_bits, of_int, neg, add, mul, div, lt, round, size}
use Rattle.floats.specs.Number.{sign_of, same_of}
use Rattle.words.specs.Words.{le32, word32}
use Rattle.bodies.specs.Kinds.{length_of}
use Rattle.bodies.specs.Read.{step_of, cart_of}
use Rattle.bodies.specs.Rules.{step_in_rule, lacks_convention, lacks_epoch, lacks_duration, written_in_rule, body_in_rule}
use Rattle.sheet.specs.Layout.{body_at}
use Rattle.sheet.specs.Rules.{refusal1, refusal2, refusal3, refusal4, refusal5, end_before, place_broken, some_from, has_deformation, refusal11, rules_of_step, five_to_eight, elevens, reader_order, first_broken, refusal_of}
use Rattle.text.specs.Ascii.{ascii}
use Rattle.text.specs.Digits.{digits_of, places_of, decimal_of}
use Rattle.decimal.specs.Places.{ten_to, whole_of, digits_of as tried_of, read_of, passes_of, first_from, decimal_of as found_of}
use Rattle.figures.specs.Figures.{sign_text, fraction_text, fixed_text, either_text, number_text}
use Rattle.lines.specs.Lines.{word_line, ellipsoid_text, ellipsoid_line}
use Rattle.fields.specs.Words.{kind_text, kind_line, inverted_text, inverted_line}
use Rattle.fields.specs.Fields.{cart_text, fields_text}
use Rattle.show.specs.Show.{line_of, head_line, head_text, entry_text, step_text, steps_text, accepted_text, rule_text, told_text, word_place, sheet_place, refused_text, show_text}

-- a sheet's bytes, given as words
bytes : List ℕ → List ℕ
bytes [] = []
bytes (w ∷ ws) = le32 w ++ bytes ws

-- P1: GRS80 cart
p1 : List ℕ
p1 = bytes (1 ∷ 40 ∷ 1 ∷ 16 ∷ 2 ∷ 0 ∷ 32 ∷ 8 ∷ 1 ∷ 0 ∷ [])

P1_is_shown :
    show_text p1
    ≡ ascii
    "form: 1\ntotal length: 40\nstep count: 1\ndirectory offset: 16\nstep 1\n  kind: 2 cart\n  inverted: 0 no\n  body offset: 32\n  body length: 8\n  ellipsoid: 1 GRS80, a 6378137 m, 1/f 298.257222101\n  reserved: 0\n"
unfolding p1 bytes le32 word32 length_of step_of cart_of step_in_rule lacks_convention lacks_epoch lacks_duration written_in_rule body_in_rule body_at refusal1 refusal2 refusal3 refusal4 refusal5 end_before place_broken some_from has_deformation refusal11 rules_of_step five_to_eight elevens reader_order first_broken refusal_of digits_of places_of decimal_of ten_to whole_of tried_of read_of passes_of first_from found_of sign_text fraction_text fixed_text either_text number_text word_line ellipsoid_text ellipsoid_line kind_text kind_line inverted_text inverted_line cart_text fields_text line_of head_line head_text entry_text step_text steps_text accepted_text show_text same_of sign_of of_bits to_bits of_int neg add mul div lt round size
P1_is_shown = refl

P7_is_shown :
    show_text (take 39 p1)
    ≡ ascii
    "refused 1 step 0: fewer than 16 or more than 4,240 bytes, or total length differs\nplace: byte 4\nbytes: 39\nform: 1\ntotal length: 40\nstep count: 1\ndirectory offset: 16\n"
unfolding p1 bytes le32 word32 refusal1 reader_order first_broken refusal_of digits_of places_of decimal_of line_of head_line head_text rule_text told_text word_place sheet_place refused_text show_text
P7_is_shown = refl

-- two of the header's words are there, and two are not
cut_header_is_shown :
    show_text (take 11 p1)
    ≡ ascii
    "refused 1 step 0: fewer than 16 or more than 4,240 bytes, or total length differs\nplace: byte 4\nbytes: 11\nform: 1\ntotal length: 40\nstep count: missing\ndirectory offset: missing\n"
unfolding p1 bytes le32 word32 refusal1 reader_order first_broken refusal_of digits_of places_of decimal_of line_of head_line head_text rule_text told_text word_place sheet_place refused_text show_text
cut_header_is_shown = refl
