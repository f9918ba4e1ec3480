-- The sheet's words in words: flags, conventions, tide systems, kinds and inverted words.
use Rattle.std.specs.Prelude.{ℕ, ◌/◌, ◌%◌, Bool, cond, List, [], ◌∷◌, ◌++◌, eqb}
use Rattle.text.specs.Ascii.{ascii}
use Rattle.text.specs.Digits.{decimal_of}
use Rattle.lines.specs.Lines.{flag_text}

-- flags 1, 2, 4, 8
abbrev pub flag1 : ℕ → Bool
flag1 flags = eqb (flags % 2) 1

abbrev pub flag2 : ℕ → Bool
flag2 flags = eqb (flags / 2 % 2) 1

abbrev pub flag4 : ℕ → Bool
flag4 flags = eqb (flags / 4 % 2) 1

abbrev pub flag8 : ℕ → Bool
flag8 flags = eqb (flags / 8 % 2) 1

-- of each flag that has a name whether it is set: the first is flag 1, each next is worth twice as
-- much
unfoldable pub named_flags : List (List ℕ) → ℕ → List ℕ
named_flags [] flags = []
named_flags (name ∷ names) flags = flag_text name (flag1 flags) ++ named_flags names (flags / 2)

-- the number, and then the flags by their names
unfoldable pub flags_line : List (List ℕ) → ℕ → List ℕ
flags_line names flags = ascii "  flags: " ++ decimal_of flags ++ named_flags names flags ++ ascii "\n"

-- kind 1: 1 exact, 2 uas, 4 mm, 8 own-epoch
unfoldable pub helmert_flags : ℕ → List ℕ
helmert_flags flags =
    ascii "  flags: "
    ++ decimal_of flags
    ++ flag_text (ascii "; exact ") (flag1 flags)
    ++ flag_text (ascii "; uas ") (flag2 flags)
    ++ flag_text (ascii "; mm ") (flag4 flags)
    ++ flag_text (ascii "; own-epoch ") (flag8 flags)
    ++ ascii "\n"

-- kind 3: 1 abridged, 2 two ellipsoids
unfoldable pub molodensky_flags : ℕ → List ℕ
molodensky_flags flags =
    ascii "  flags: "
    ++ decimal_of flags
    ++ flag_text (ascii "; abridged ") (flag1 flags)
    ++ flag_text (ascii "; two ellipsoids ") (flag2 flags)
    ++ ascii "\n"

-- kind 5: 1 raw, 2 the comment's sign
unfoldable pub deformation_flags : ℕ → List ℕ
deformation_flags flags =
    ascii "  flags: "
    ++ decimal_of flags
    ++ flag_text (ascii "; raw ") (flag1 flags)
    ++ flag_text (ascii "; comment's sign ") (flag2 flags)
    ++ ascii "\n"

-- kind 6: 1 exact, 2 uas, 4 mm
unfoldable pub badekas_flags : ℕ → List ℕ
badekas_flags flags =
    ascii "  flags: "
    ++ decimal_of flags
    ++ flag_text (ascii "; exact ") (flag1 flags)
    ++ flag_text (ascii "; uas ") (flag2 flags)
    ++ flag_text (ascii "; mm ") (flag4 flags)
    ++ ascii "\n"

-- 0 none, 1 position vector, 2 coordinate frame
unfoldable pub convention_text : ℕ → List ℕ
convention_text n =
    cond (eqb n 0) (ascii " none\n")
    (cond (eqb n 1) (ascii " position vector\n")
    (cond (eqb n 2) (ascii " coordinate frame\n") (ascii " outside its rule\n")))

unfoldable pub convention_line : ℕ → List ℕ
convention_line n = ascii "  convention: " ++ decimal_of n ++ convention_text n

-- mean 1, zero 2, free 3
unfoldable pub system_text : ℕ → List ℕ
system_text n =
    cond (eqb n 1) (ascii " mean\n")
    (cond (eqb n 2) (ascii " zero\n")
    (cond (eqb n 3) (ascii " free\n") (ascii " outside its rule\n")))

unfoldable pub system_line : List ℕ → ℕ → List ℕ
system_line name n = name ++ decimal_of n ++ system_text n

unfoldable pub kind_text : ℕ → List ℕ
kind_text n =
    cond (eqb n 1) (ascii " Helmert\n")
    (cond (eqb n 2) (ascii " cart\n")
    (cond (eqb n 3) (ascii " Molodensky\n")
    (cond (eqb n 4) (ascii " permtide\n")
    (cond (eqb n 5) (ascii " deformation\n")
    (cond (eqb n 6) (ascii " Molodensky-Badekas\n") (ascii " outside its rule\n"))))))

unfoldable pub kind_line : ℕ → List ℕ
kind_line n = ascii "  kind: " ++ decimal_of n ++ kind_text n

unfoldable pub inverted_text : ℕ → List ℕ
inverted_text n = cond (eqb n 0) (ascii " no\n") (cond (eqb n 1) (ascii " yes\n") (ascii " outside its rule\n"))

unfoldable pub inverted_line : ℕ → List ℕ
inverted_line n = ascii "  inverted: " ++ decimal_of n ++ inverted_text n
