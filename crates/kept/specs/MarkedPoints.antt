-- P6, document 01's marked point of the kept run: a fresh run, a correction, and what both leave.
use Rattle.std.specs.Prelude.{◌≡◌, false, List, [], ◌∷◌, ℕ, replicate, Float}
use Rattle.floats.specs.Binary64.{bits}
use Rattle.tuple.specs.declared.Tuple.{Tuple}
use Rattle.sheet.specs.Rules.{accepted}
use Rattle.lists.specs.Flat.{four_of}
use Rattle.chain.specs.MarkedPoints.{helmert_sheet, fixes, xs, one, y2001, y2002}
use Rattle.stretch.specs.Kept.{Kept, kept_of}
use Rattle.kept.specs.Entries.{keep_of, CorrectOutcome, corrected_as, correct_of}

-- DT = (1, 0, 0), t_epoch 2000, running
unfoldable pub p6-sheet : List ℕ
p6-sheet = helmert_sheet 0 0x3ff00000 0 0x409f4000

unfoldable pub y2000 : Float
y2000 = bits 0x409f_4000_0000_0000

-- fixes at X = 0 at 2001, 2000, 2002; results and track may hold anything
unfoldable pub p6_lists : Kept
p6_lists = kept_of (fixes (y2001 ∷ y2000 ∷ y2002 ∷ [])) (replicate 12 one) (replicate 12 one)

abbrev pub p6-kept : Kept
p6-kept = keep_of false p6-sheet p6_lists

-- index 1 retimed to 2001
unfoldable pub p6-fix : Tuple
p6-fix = four_of (bits 0) (bits 0) (bits 0) y2001

abbrev pub p6-corrected : CorrectOutcome
p6-corrected = correct_of false p6-sheet p6-kept 1 p6-fix

-- P6: count 2; X was 1, 1, 3 and stays so, since T does not grow at a time equal to the last, nor
-- by 2000 less t_epoch; the track's last time was 2000 there
abbrev pub P6 : Type 0
P6 =
    (p6-corrected.answer ≡ corrected_as accepted 2)
    × (xs p6-kept.results ≡ one ∷ one ∷ bits 0x4008_0000_0000_0000 ∷ [])
    × (xs p6-corrected.kept.results ≡ one ∷ one ∷ bits 0x4008_0000_0000_0000 ∷ [])
    × (xs p6-kept.track ≡ y2001 ∷ y2000 ∷ y2002 ∷ [])
    × (xs p6-corrected.kept.track ≡ y2001 ∷ y2001 ∷ y2002 ∷ [])
