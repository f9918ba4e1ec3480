-- A sheet shown: its header, and step by step its directory entry and its fields; or the refusal in
-- words, with the step and the place.
use Rattle.std.specs.Prelude.{ℕ, zero, suc, ◌+◌, ◌-◌, cond, List, [], ◌++◌, eqb, ltb, length}
use Rattle.words.specs.Words.{word32}
use Rattle.sheet.specs.Layout.{step_count_of, entry_offset, kind_at, inverted_at, offset_at, length_at}
use Rattle.sheet.specs.Rules.{refusal_of}
use Rattle.text.specs.Ascii.{ascii}
use Rattle.text.specs.Digits.{decimal_of}
use Rattle.fields.specs.Words.{kind_line, inverted_line}
use Rattle.fields.specs.Fields.{fields_text}
use Rattle.faults.specs.Faults.{fault_of}

-- a name and a number
unfoldable pub line_of : List ℕ → ℕ → List ℕ
line_of name n = name ++ decimal_of n ++ ascii "\n"

-- ---- the header: form; total length; step count; directory offset

-- the word at an offset; of a sheet that is too short to have it, that it is missing
unfoldable pub head_line : List ℕ → List ℕ → ℕ → List ℕ
head_line name s offset = cond (ltb (length s) (offset + 4)) (name ++ ascii "missing\n") (line_of name (word32 s offset))

unfoldable pub head_text : List ℕ → List ℕ
head_text s =
    head_line (ascii "form: ") s 0
    ++ head_line (ascii "total length: ") s 4
    ++ head_line (ascii "step count: ") s 8
    ++ head_line (ascii "directory offset: ") s 12

-- ---- a step: its directory entry, kind; inverted; body offset; body length; then its fields

unfoldable pub entry_text : ℕ → ℕ → ℕ → ℕ → List ℕ
entry_text kind inverted offset body_length =
    kind_line kind ++ inverted_line inverted ++ line_of (ascii "  body offset: ") offset ++ line_of (ascii "  body length: ") body_length

unfoldable pub step_text : List ℕ → ℕ → List ℕ
step_text s i =
    line_of (ascii "step ") (i + 1)
    ++ entry_text (kind_at s i) (inverted_at s i) (offset_at s i) (length_at s i)
    ++ fields_text (kind_at s i) s (offset_at s i)

-- k steps from step i on
unfoldable pub steps_text : List ℕ → ℕ → ℕ → List ℕ
steps_text s zero i = []
steps_text s (suc k) i = step_text s i ++ steps_text s k (i + 1)

unfoldable pub accepted_text : List ℕ → List ℕ
accepted_text s = head_text s ++ steps_text s (step_count_of s) 0

-- ---- a refusal

-- the rule in document 01's words
unfoldable pub rule_text : ℕ → List ℕ
rule_text n =
    cond (eqb n 1) (ascii "fewer than 16 or more than 4,240 bytes, or total length differs\n")
    (cond (eqb n 2) (ascii "form not 1\n")
    (cond (eqb n 3) (ascii "step count 0 or over 16\n")
    (cond (eqb n 4) (ascii "directory offset not 16, a directory outside the sheet, a kind, inverted word or body length outside its rule, an offset not where the body before it ends, or bodies not ending at the total length\n")
    (cond (eqb n 5) (ascii "a body field outside its rule\n")
    (cond (eqb n 6) (ascii "rotated, convention none\n")
    (cond (eqb n 7) (ascii "dynamic, t_epoch not given\n")
    (cond (eqb n 8) (ascii "neither dt nor t_epoch\n")
    (ascii "second deformation step\n"))))))))

-- a refusal's number and step, and its rule in some words
unfoldable pub told_text : ℕ → ℕ → List ℕ → List ℕ
told_text number step words = ascii "refused " ++ decimal_of number ++ ascii " step " ++ decimal_of step ++ ascii ": " ++ words

abbrev pub answer_text : ℕ → ℕ → List ℕ
answer_text number step = told_text number step (rule_text number)

-- the byte of the word that a refusal of the sheet as a whole is about: 1 the total length, 2 the
-- form, 3 the step count, 4 where the fault is
unfoldable pub word_place : List ℕ → ℕ → ℕ
word_place s number = cond (eqb number 1) 4 (cond (eqb number 2) 0 (cond (eqb number 3) 8 (fault_of s)))

unfoldable pub sheet_place : List ℕ → ℕ → List ℕ
sheet_place s number = line_of (ascii "place: byte ") (word_place s number) ++ line_of (ascii "bytes: ") (length s) ++ head_text s

-- a step's entry and body, and the step as it is
unfoldable pub step_place : List ℕ → ℕ → List ℕ
step_place s i =
    line_of (ascii "place: directory entry at byte ") (entry_offset i)
    ++ line_of (ascii "place: body at byte ") (offset_at s i)
    ++ step_text s i

unfoldable pub refused_text : List ℕ → ℕ → ℕ → List ℕ
refused_text s number step = answer_text number step ++ cond (eqb step 0) (sheet_place s number) (step_place s (step - 1))

-- ---- a sheet

unfoldable pub show_text : List ℕ → List ℕ
show_text s = cond (eqb (refusal_of s).number 0) (accepted_text s) (refused_text s (refusal_of s).number (refusal_of s).step)
