-- `cartesian` and `geographic` of geocart.rs: the Rust's own sequence of roundings, in its letters
-- and order (Bowring 1976 and 1985, Fukushima 1999). A geographic tuple holds longitude, latitude,
-- height and time in x, y, z and t.
use Rattle.std.specs.Prelude.{cond, Float}
use Rattle.std.specs.Float.{nan}
use Rattle.std.specs.Float.Ieee.{is_nan, lt}
use Rattle.floats.specs.Binary64.{◌⊕◌, ◌⊖◌, ◌⊗◌, ◌⊘◌, bits}
use Rattle.floats.specs.Number.{abs_of, copysign_of, cube_of}
use Rattle.root.specs.Sqrt.{sqrt_of}
use Rattle.trig.specs.Trig.{sin_of, cos_of}
use Rattle.arctan.specs.Arctan.{atan2_of}
use Rattle.hypot.specs.Hypot.{hypot_of}
use Rattle.tuple.specs.declared.Tuple.{Tuple}
use Rattle.ellipsoid.specs.declared.Ellipsoid.{Ellipsoid}
use Rattle.ellipsoid.specs.Figure.{one, prime_vertical_of}
use Rattle.geocart.specs.declared.Legs.{Legs}
use Rattle.geocart.specs.declared.Point.{Point}
use Rattle.geocart.specs.declared.Position.{Position}

-- ---- geographic to cartesian

-- the point at a height h, from N and from the sines and cosines of latitude and longitude
unfoldable pub point_of : Ellipsoid → Float → Float → Float → Float → Float → Float → Point
point_of e N h sinphi cosphi sinlam coslam =
    record {
      x = (N ⊕ h) ⊗ cosphi ⊗ coslam;
      y = (N ⊕ h) ⊗ cosphi ⊗ sinlam;
      z = (N ⊗ (one ⊖ e.es) ⊕ h) ⊗ sinphi;
    }

unfoldable pub cartesian_of : Ellipsoid → Tuple → Tuple
unfolding point_of
cartesian_of e geographic =
    let lam = geographic.x in
    let phi = geographic.y in
    let h = geographic.z in
    let v = point_of e (prime_vertical_of e (sin_of phi)) h (sin_of phi) (cos_of phi) (sin_of lam) (cos_of lam) in
    record { x = v.x; y = v.y; z = v.z; t = geographic.t }

-- ---- cartesian to geographic

-- π/2
abbrev pub half_pi : Float
half_pi = bits 0x3ff9_21fb_5444_2d18

-- The latitude of a point on the axis: a pole's, with the sign of Z. A NaN Z, whose sign says
-- nothing, gives NaN: a listed difference.
unfoldable pub pole_of : Float → Float
pole_of Z = cond (is_nan Z) nan (copysign_of half_pi Z)

-- The height of a point on the axis: |Z| - b.
unfoldable pub pole_height_of : Ellipsoid → Float → Float
pole_height_of e Z = abs_of Z ⊖ e.b

-- A point of the meridian plane, p from the axis and Z above the equator, off the axis.
-- T, which Bowring's method starts from
unfoldable pub tangent_of : Ellipsoid → Float → Float → Float
tangent_of e p Z = Z ⊗ e.a ⊘ (p ⊗ e.b)

-- 1 + T²
abbrev pub radicand_of : Float → Float
radicand_of T = one ⊕ T ⊗ T

-- phi_num and phi_denom, from T and the root of 1 + T²: the latitude is the angle that they make
unfoldable pub legs_of : Ellipsoid → Float → Float → Float → Float → Legs
legs_of e p Z T root =
    let c = one ⊘ root in
    let s = c ⊗ T in
    record { num = Z ⊕ e.eps ⊗ e.b ⊗ cube_of s; denom = p ⊖ e.es ⊗ e.a ⊗ cube_of c }

-- the same from p and Z
unfoldable pub bowring_of : Ellipsoid → Float → Float → Legs
unfolding tangent_of legs_of
bowring_of e p Z =
    let T = tangent_of e p Z in
    legs_of e p Z T (sqrt_of (radicand_of T))

-- the height, Bowring (1985)
unfoldable pub bowring_height_of : Ellipsoid → Float → Float → Legs → Float
bowring_height_of e p Z m =
    let lenphi = hypot_of m.num m.denom in
    let sinphi = m.num ⊘ lenphi in
    let cosphi = m.denom ⊘ lenphi in
    p ⊗ cosphi ⊕ Z ⊗ sinphi ⊖ e.a ⊗ e.a ⊘ prime_vertical_of e sinphi

-- for p < 1 picometre the point counts as on the axis: 1e-12
abbrev pub cutoff : Float
cutoff = bits 0x3d71_9799_812d_ea11

unfoldable pub geographic_of : Ellipsoid → Tuple → Tuple
geographic_of e cartesian =
    let lam = atan2_of cartesian.y cartesian.x in
    let p = hypot_of cartesian.x cartesian.y in
    let Z = cartesian.z in
    let m = bowring_of e p Z in
    cond (lt p cutoff)
    (record { x = lam; y = pole_of Z; z = pole_height_of e Z; t = cartesian.t })
    (record { x = lam; y = atan2_of m.num m.denom; z = bowring_height_of e p Z m; t = cartesian.t })

-- its longitude and latitude alone
abbrev pub place_of : Ellipsoid → Tuple → Position
place_of e cartesian = let g = geographic_of e cartesian in record { lam = g.x; phi = g.y }
