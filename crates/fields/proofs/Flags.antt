-- The flags of a word, one after another, and the flags of each kind as one line. Assumes nothing.
use mathlib.Core.Path.{◌≡◌, ap, ◌∙◌}
use Prim.Native.Nat.{ℕ, ◌+◌, ◌/◌, ◌<◌, ◌≤◌}
use mathlib.Core.List.{List, [], ◌∷◌, ◌++◌, append-nil}
use native.Mathlib.Numerals.{add-one}
use native.Mathlib.Nat.{div-div-eq-div-mul}
use lib.ListN.{length, drop, get_or, drop_of_length-le}
use Rattle.std.proofs.Common.{append_assoc}
use lib.Seq.{drop-cons}
use denote.Bor.{Bor}
use Rattle.std.specs.Prelude.{map}
use Rattle.text.specs.Ascii.{ascii}
use Rattle.lines.specs.Lines.{flag_text}
use Rattle.text.specs.Digits.{decimal_of}
use Rattle.fields.specs.Words.{flag1, flag2, flag4, flag8, named_flags, flags_line, helmert_flags, molodensky_flags, deformation_flags, badekas_flags}

pub next_flag : (names : List (Bor (List ℕ))) (i flags : ℕ) (d : Bor (List ℕ)) → i < length names
    → named_flags (map (λ name. name.now) (drop i names)) flags ≡ flag_text (get_or names i d).now (flag1 flags) ++ named_flags (map (λ name. name.now) (drop (i + 1) names)) (flags / 2)
unfolding named_flags
next_flag names i flags d h = rw (drop-cons names i d h, add-one i)

pub no_flag : (names : List (Bor (List ℕ))) (i flags : ℕ) → length names ≤ i → named_flags (map (λ name. name.now) (drop i names)) flags ≡ []
unfolding named_flags
no_flag names i flags h = rw (drop_of_length-le names h)

-- ---- each kind's line

two : (h d a b n : List ℕ) → h ++ d ++ (a ++ (b ++ [])) ++ n ≡ h ++ d ++ a ++ b ++ n
two h d a b n = simp (append-nil, append_assoc)

three : (h d a b c n : List ℕ) → h ++ d ++ (a ++ (b ++ (c ++ []))) ++ n ≡ h ++ d ++ a ++ b ++ c ++ n
three h d a b c n = simp (append-nil, append_assoc)

four : (h d a b c e n : List ℕ) → h ++ d ++ (a ++ (b ++ (c ++ (e ++ [])))) ++ n ≡ h ++ d ++ a ++ b ++ c ++ e ++ n
four h d a b c e n = simp (append-nil, append_assoc)

quarter : (n : ℕ) → n / 2 / 2 ≡ n / 4
quarter n = div-div-eq-div-mul n 2 2

eighth : (n : ℕ) → n / 2 / 2 / 2 ≡ n / 8
eighth n = ap (λ (m : ℕ). m / 2) (quarter n) ∙ div-div-eq-div-mul n 4 2

pub helmert : (flags : ℕ) → flags_line (ascii "; exact " ∷ ascii "; uas " ∷ ascii "; mm " ∷ ascii "; own-epoch " ∷ []) flags ≡ helmert_flags flags
unfolding flags_line named_flags helmert_flags
helmert flags = rw (eighth flags, quarter flags) (four (ascii "  flags: ") (decimal_of flags) (flag_text (ascii "; exact ") (flag1 flags)) (flag_text (ascii "; uas ") (flag2 flags)) (flag_text (ascii "; mm ") (flag4 flags)) (flag_text (ascii "; own-epoch ") (flag8 flags)) (ascii "\n"))

pub molodensky : (flags : ℕ) → flags_line (ascii "; abridged " ∷ ascii "; two ellipsoids " ∷ []) flags ≡ molodensky_flags flags
unfolding flags_line named_flags molodensky_flags
molodensky flags = two (ascii "  flags: ") (decimal_of flags) (flag_text (ascii "; abridged ") (flag1 flags)) (flag_text (ascii "; two ellipsoids ") (flag2 flags)) (ascii "\n")

pub deformation : (flags : ℕ) → flags_line (ascii "; raw " ∷ ascii "; comment's sign " ∷ []) flags ≡ deformation_flags flags
unfolding flags_line named_flags deformation_flags
deformation flags = two (ascii "  flags: ") (decimal_of flags) (flag_text (ascii "; raw ") (flag1 flags)) (flag_text (ascii "; comment's sign ") (flag2 flags)) (ascii "\n")

pub badekas : (flags : ℕ) → flags_line (ascii "; exact " ∷ ascii "; uas " ∷ ascii "; mm " ∷ []) flags ≡ badekas_flags flags
unfolding flags_line named_flags badekas_flags
badekas flags = rw (quarter flags) (three (ascii "  flags: ") (decimal_of flags) (flag_text (ascii "; exact ") (flag1 flags)) (flag_text (ascii "; uas ") (flag2 flags)) (flag_text (ascii "; mm ") (flag4 flags)) (ascii "\n"))
