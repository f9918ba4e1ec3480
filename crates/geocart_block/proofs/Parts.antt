-- What the loops over blocks reach is what `cartesian_of` and `geographic_of` say, number by number.
-- Assumes nothing.
use mathlib.Core.Path.{◌≡◌, refl, ◌∙◌, sym}
use mathlib.Core.Bool.{Bool, true, false, cond}
use lib.Ieee.{Float, lt}
use Rattle.root.specs.Sqrt.{sqrt_of}
use Rattle.trig.specs.Trig.{sin_of, cos_of}
use Rattle.arctan.specs.Arctan.{atan2_of}
use Rattle.hypot.specs.Hypot.{hypot_of}
use Rattle.tuple.specs.declared.Tuple.{Tuple}
use Rattle.ellipsoid.specs.declared.Ellipsoid.{Ellipsoid}
use Rattle.ellipsoid.specs.Figure.{w_of, prime_vertical_with, prime_vertical_of}
use Rattle.geocart.specs.declared.Point.{Point}
use Rattle.geocart.specs.Geocart.{point_of, cutoff, cartesian_of, tangent_of, radicand_of, legs_of, bowring_of, geographic_of}
use Rattle.geocart_block.specs.Blocks.{latitude_of}

-- a function of what is taken is taken of the function's values
pub through : {A B : Type 0} (g : A → B) (b : Bool) (u w : A) → g (cond b u w) ≡ cond b (g u) (g w)
through g true u w = refl
through g false u w = refl

-- what is the same either way is that
pub either_way : {A : Type 0} (b : Bool) (u : A) → cond b u u ≡ u
either_way true u = refl
either_way false u = refl

-- a tuple without its time
abbrev pub placed : Tuple → Point
placed v = record { x = v.x; y = v.y; z = v.z }

module _ (e : Ellipsoid) (v : Tuple) where
  pub point-is : {rootw w sinphi cosphi sinlam coslam : Float} → rootw ≡ sqrt_of w → w ≡ w_of e sinphi → sinphi ≡ sin_of v.y → cosphi ≡ cos_of v.y → sinlam ≡ sin_of v.x → coslam ≡ cos_of v.x → point_of e (prime_vertical_with e rootw) v.z sinphi cosphi sinlam coslam ≡ placed (cartesian_of e v)
  unfolding cartesian_of prime_vertical_of
  point-is root radicand sine cosine sine' cosine' = rw (root, radicand, sine, cosine, sine', cosine')

  pub longitude-is : {lam : Float} → lam ≡ atan2_of v.y v.x → lam ≡ (geographic_of e v).x
  unfolding geographic_of
  longitude-is h = h ∙ sym (either_way (lt (hypot_of v.x v.y) cutoff) _) ∙ sym (through (λ (r : Tuple). r.x) (lt (hypot_of v.x v.y) cutoff) _ _)

  pub latitude-is : {p num denom phi : Float} → p ≡ hypot_of v.x v.y → num ≡ (bowring_of e p v.z).num → denom ≡ (bowring_of e p v.z).denom → phi ≡ atan2_of num denom → latitude_of cutoff p v.z phi ≡ (geographic_of e v).y
  unfolding geographic_of
  latitude-is length above from angle = rw (angle, above, from, length) (sym (through (λ (r : Tuple). r.y) (lt (hypot_of v.x v.y) cutoff) _ _))

pub legs_are : (e : Ellipsoid) (p Z : Float) {T u root : Float} → T ≡ tangent_of e p Z → u ≡ radicand_of (tangent_of e p Z) → root ≡ sqrt_of u → legs_of e p Z T root ≡ bowring_of e p Z
unfolding bowring_of
legs_are e p Z tangent sum root = rw (root, sum, tangent)
