-- Document 01, "Kernels and ellipsoids": the ellipsoid's record, the table of five, the radii of
-- curvature and the geocentric latitude. Each formula is a sequence of single roundings, in the
-- order that it is written here.
use Rattle.std.specs.Prelude.{ℕ, zero, suc, List, [], ◌∷◌, Bool, false, cond, leb, get_or, length, Float}
use Rattle.std.specs.Float.{nan}
use Rattle.floats.specs.Binary64.{◌⊖◌, ◌⊗◌, ◌⊘◌, bits}
use Rattle.floats.specs.Number.{square_of}
use Rattle.root.specs.Sqrt.{sqrt_of}
use Rattle.arctan.specs.Arctan.{atan2_of}
use Rattle.ellipsoid.specs.declared.Ellipsoid.{Ellipsoid}
use Rattle.ellipsoid.specs.declared.Radii.{Radii}

abbrev pub one : Float
one = bits 0x3ff0_0000_0000_0000

abbrev pub two : Float
two = bits 0x4000_0000_0000_0000

-- The record of a semimajor axis a and a flattening f = 1/rf: es = f(2 - f), b = a(1 - f), es' =
-- es/(1 - es). The field of es' is named eps, as in the Rust.
unfoldable pub ellipsoid_of : Float → Float → Ellipsoid
ellipsoid_of a rf =
    let f = one ⊘ rf in
    let es = f ⊗ (two ⊖ f) in
    record { a = a; f = f; es = es; b = a ⊗ (one ⊖ f); eps = es ⊘ (one ⊖ es) }

-- A row of the table: the semimajor axis, and one over the flattening.
pub record Axes : Type 0 where
  pub a : Float
  pub rf : Float

-- The table, from number 1 on.
abbrev pub table : List Axes
table =
    -- GRS80: 6378137, 298.257222101
    record { a = bits 0x4158_54a6_4000_0000; rf = bits 0x4072_a41d_94eb_f9a8 }
    -- WGS84: 6378137, 298.257223563
    ∷ record { a = bits 0x4158_54a6_4000_0000; rf = bits 0x4072_a41d_9674_6d88 }
    -- International 1924: 6378388, 297
    ∷ record { a = bits 0x4158_54e5_0000_0000; rf = bits 0x4072_9000_0000_0000 }
    -- Bessel 1841: 6377397.155, 299.1528128
    ∷ record { a = bits 0x4158_53ed_49eb_851f; rf = bits 0x4072_b271_ebd5_a690 }
    -- Krassowsky 1940: 6378245, 298.3
    ∷ record { a = bits 0x4158_54c1_4000_0000; rf = bits 0x4072_a4cc_cccc_cccd }
    ∷ []

-- Any other number names no ellipsoid: its row is NaN, and so is every field of the record made of
-- it.
abbrev pub no_axes : Axes
no_axes = record { a = nan; rf = nan }

abbrev pub axes_of : ℕ → Axes
axes_of zero = no_axes
axes_of (suc n) = get_or table n no_axes

-- whether the table has this number
abbrev pub exists_of : ℕ → Bool
exists_of n = cond (leb 1 n) (leb n (length table)) false

unfoldable pub named_of : ℕ → Ellipsoid
named_of n = ellipsoid_of (axes_of n).a (axes_of n).rf

-- w = 1 - es·sin²φ, from s = sin φ: the square first, then its product with es, then the
-- difference.
unfoldable pub w_of : Ellipsoid → Float → Float
w_of e s = one ⊖ square_of s ⊗ e.es

-- N = a/√w, the radius of curvature in the prime vertical, from the root of w
abbrev pub prime_vertical_with : Ellipsoid → Float → Float
prime_vertical_with e root = e.a ⊘ root

-- M = a(1 - es)/(w·√w), the radius of curvature in the meridian, from w and its root
abbrev pub meridian_with : Ellipsoid → Float → Float → Float
meridian_with e w root = e.a ⊗ (one ⊖ e.es) ⊘ (w ⊗ root)

-- N and M from s = sin φ
unfoldable pub prime_vertical_of : Ellipsoid → Float → Float
prime_vertical_of e s = prime_vertical_with e (sqrt_of (w_of e s))

unfoldable pub meridian_of : Ellipsoid → Float → Float
meridian_of e s = meridian_with e (w_of e s) (sqrt_of (w_of e s))

-- the geocentric latitude atan2((1 - es)·sin φ, cos φ), from s = sin φ and c = cos φ
unfoldable pub geocentric_of : Ellipsoid → Float → Float → Float
geocentric_of e s c = atan2_of ((one ⊖ e.es) ⊗ s) c

-- both radii, from w and its root, and from s = sin φ
abbrev pub radii_with : Ellipsoid → Float → Float → Radii
radii_with e w root = record { n = prime_vertical_with e root; m = meridian_with e w root }

abbrev pub radii_of : Ellipsoid → Float → Radii
radii_of e s = record { n = prime_vertical_of e s; m = meridian_of e s }
