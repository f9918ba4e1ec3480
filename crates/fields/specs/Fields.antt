-- The fields of a body, by kind: document 01's names in the body's order, each with its place and
-- its unit.
use Rattle.std.specs.Prelude.{ℕ, ◌+◌, Bool, true, false, cond, List, ◌++◌, eqb}
use Rattle.words.specs.Words.{word32}
use Rattle.text.specs.Ascii.{ascii}
use Rattle.lines.specs.declared.Unit.{Unit}
use Rattle.lines.specs.declared.Unit.TheVariants.{Plain, Metre, Millimetre, Arcsecond, MicroArcsecond, Ppm}
use Rattle.lines.specs.Lines.{word_line, time_line, one_line, three_line, series_lines, single_lines, ellipsoid_line}
use Rattle.fields.specs.Words.{flag2, flag4, helmert_flags, molodensky_flags, deformation_flags, badekas_flags, convention_line, system_line}

-- ---- kind 1, Helmert

-- flag 4: mm
unfoldable pub length_unit : Bool → Unit
length_unit mm = cond mm Millimetre Metre

-- flag 2: uas
unfoldable pub angle_unit : Bool → Unit
angle_unit uas = cond uas MicroArcsecond Arcsecond

unfoldable pub lengths_text : List ℕ → ℕ → Bool → List ℕ
lengths_text s base mm =
    series_lines (ascii "  translation: ") (ascii "  xyz: ") s (base + 8) (base + 32) (length_unit mm) false
    ++ series_lines (ascii "  translation_rate: ") (ascii "  dxyz: ") s (base + 56) (base + 80) (length_unit mm) true

unfoldable pub angles_text : List ℕ → ℕ → Bool → List ℕ
angles_text s base uas =
    series_lines (ascii "  rotation: ") (ascii "  rxyz: ") s (base + 104) (base + 128) (angle_unit uas) false
    ++ series_lines (ascii "  rotation_rate: ") (ascii "  drxyz: ") s (base + 152) (base + 176) (angle_unit uas) true

unfoldable pub scales_text : List ℕ → ℕ → List ℕ
scales_text s base =
    single_lines (ascii "  scale: ") (ascii "  s: ") s (base + 200) (base + 208) Ppm false
    ++ single_lines (ascii "  scale_rate: ") (ascii "  ds: ") s (base + 216) (base + 224) Ppm true

unfoldable pub helmert_text : List ℕ → ℕ → List ℕ
helmert_text s base =
    helmert_flags (word32 s (base + 0))
    ++ convention_line (word32 s (base + 4))
    ++ lengths_text s base (flag4 (word32 s (base + 0)))
    ++ angles_text s base (flag2 (word32 s (base + 0)))
    ++ scales_text s base
    ++ time_line (ascii "  t_epoch: ") s (base + 232)
    ++ time_line (ascii "  t_obs: ") s (base + 240)

-- ---- kind 2, cart

unfoldable pub cart_text : List ℕ → ℕ → List ℕ
cart_text s base = ellipsoid_line (ascii "  ellipsoid: ") s (base + 0) ++ word_line (ascii "  reserved: ") s (base + 4)

-- ---- kind 3, Molodensky

unfoldable pub figures_text : List ℕ → ℕ → List ℕ
figures_text s base =
    molodensky_flags (word32 s (base + 0))
    ++ ellipsoid_line (ascii "  first: ") s (base + 4)
    ++ ellipsoid_line (ascii "  second: ") s (base + 8)
    ++ word_line (ascii "  reserved: ") s (base + 12)

unfoldable pub shifts_text : List ℕ → ℕ → List ℕ
shifts_text s base =
    one_line (ascii "  dx: ") s (base + 16) Metre false
    ++ one_line (ascii "  dy: ") s (base + 24) Metre false
    ++ one_line (ascii "  dz: ") s (base + 32) Metre false
    ++ one_line (ascii "  da: ") s (base + 40) Metre false
    ++ one_line (ascii "  df: ") s (base + 48) Plain false

unfoldable pub molodensky_text : List ℕ → ℕ → List ℕ
molodensky_text s base = figures_text s base ++ shifts_text s base

-- ---- kind 4, permtide

unfoldable pub permtide_text : List ℕ → ℕ → List ℕ
permtide_text s base =
    ellipsoid_line (ascii "  ellipsoid: ") s (base + 0)
    ++ system_line (ascii "  to: ") (word32 s (base + 4))
    ++ system_line (ascii "  from: ") (word32 s (base + 8))
    ++ word_line (ascii "  reserved: ") s (base + 12)
    ++ one_line (ascii "  k: ") s (base + 16) Plain false

-- ---- kind 5, deformation

unfoldable pub deformation_text : List ℕ → ℕ → List ℕ
deformation_text s base =
    deformation_flags (word32 s (base + 0))
    ++ ellipsoid_line (ascii "  ellipsoid: ") s (base + 4)
    ++ time_line (ascii "  dt: ") s (base + 8)
    ++ time_line (ascii "  t_epoch: ") s (base + 16)

-- ---- kind 6, Molodensky-Badekas: the pivot is in metres whatever the flags say

unfoldable pub badekas_numbers : List ℕ → ℕ → Bool → Bool → List ℕ
badekas_numbers s base mm uas =
    three_line (ascii "  translation: ") s (base + 8) (length_unit mm) false
    ++ three_line (ascii "  rotation: ") s (base + 32) (angle_unit uas) false
    ++ one_line (ascii "  scale: ") s (base + 56) Ppm false
    ++ three_line (ascii "  pivot: ") s (base + 64) Metre false

unfoldable pub badekas_text : List ℕ → ℕ → List ℕ
badekas_text s base =
    badekas_flags (word32 s (base + 0))
    ++ convention_line (word32 s (base + 4))
    ++ badekas_numbers s base (flag4 (word32 s (base + 0))) (flag2 (word32 s (base + 0)))

-- ---- by kind; nothing where there is no such kind

unfoldable pub fields_text : ℕ → List ℕ → ℕ → List ℕ
fields_text kind s base =
    cond (eqb kind 1) (helmert_text s base)
    (cond (eqb kind 2) (cart_text s base)
    (cond (eqb kind 3) (molodensky_text s base)
    (cond (eqb kind 4) (permtide_text s base)
    (cond (eqb kind 5) (deformation_text s base)
    (cond (eqb kind 6) (badekas_text s base) (ascii ""))))))
