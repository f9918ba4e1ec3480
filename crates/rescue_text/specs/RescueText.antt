-- A rescue in words: each word changed by the name that a shown sheet gives it, with the old number
-- and the new one, and the sheet; or the refusal.
use Rattle.std.specs.Prelude.{ℕ, zero, suc, ◌+◌, ◌/◌, ◌%◌, cond, List, [], ◌∷◌, ◌++◌, eqb, ltb, length, get_or}
use Rattle.text.specs.Ascii.{ascii}
use Rattle.text.specs.Digits.{decimal_of}
use Rattle.rescue.specs.Rebuilt.{rebuilt_of}
use Rattle.rescue.specs.Changes.{Change, change_of, changes_of}
use Rattle.rescue.specs.Rules.{rescue_refusal_of}
use Rattle.show.specs.Show.{rule_text, told_text, show_text}

-- ---- a word by its place

unfoldable pub header_name : ℕ → List ℕ
header_name place =
    cond (eqb place 0) (ascii "form")
    (cond (eqb place 4) (ascii "total length")
    (cond (eqb place 8) (ascii "step count") (ascii "directory offset")))

-- by the bytes into the step's directory entry
unfoldable pub entry_name : ℕ → List ℕ
entry_name k =
    cond (eqb k 0) (ascii "kind")
    (cond (eqb k 4) (ascii "inverted")
    (cond (eqb k 8) (ascii "body offset") (ascii "body length")))

-- the entry of step n, counted from 1, begins at 16 n
unfoldable pub word_name : ℕ → List ℕ
word_name place =
    cond (ltb place 16) (header_name place)
    (ascii "step " ++ decimal_of (place / 16) ++ ascii ", " ++ entry_name (place % 16))

-- ---- the changes

-- as in "step 2, body offset: 311 is 288"
unfoldable pub change_line : Change → List ℕ
change_line c = word_name c.place ++ ascii ": " ++ decimal_of c.old ++ ascii " is " ++ decimal_of c.new ++ ascii "\n"

unfoldable pub change_lines : List Change → List ℕ
change_lines [] = []
change_lines (c ∷ l) = change_line c ++ change_lines l

-- the same of k changes as they stand in a list, three words each, from `at` on
unfoldable pub lines_from : List ℕ → ℕ → ℕ → List ℕ
lines_from list zero at = []
lines_from list (suc k) at = change_line (change_of (get_or list at 0) (get_or list (at + 1) 0) (get_or list (at + 2) 0)) ++ lines_from list k (at + 3)

-- ---- a sheet that is rescued: its changes, and the sheet as it is shown

unfoldable pub rescued_around : ℕ → List ℕ → List ℕ → List ℕ
rescued_around n lines sheet = ascii "words changed: " ++ decimal_of n ++ ascii "\n" ++ lines ++ ascii "the sheet\n" ++ show_text sheet

-- ---- a refusal

unfoldable pub refusal_words : ℕ → List ℕ
refusal_words n =
    cond (eqb n 19) (ascii "cannot be rebuilt: fewer than 16 bytes, step count 0 or over 16, a directory past the end, a kind or inverted word outside its rule, or bodies that do not fill the remaining bytes exactly\n")
    (cond (eqb n 15) (ascii "room or list too short\n") (rule_text n))

unfoldable pub refused_text : ℕ → ℕ → List ℕ
refused_text number step = told_text number step (refusal_words number)

-- ---- a rescue, of a damaged sheet and the lengths of room and list

unfoldable pub rescue_text : List ℕ → ℕ → ℕ → List ℕ
rescue_text s room list =
    let refusal = rescue_refusal_of s room list in
    cond (eqb refusal.number 0) (rescued_around (length (changes_of s)) (change_lines (changes_of s)) (rebuilt_of s))
    (refused_text refusal.number refusal.step)
