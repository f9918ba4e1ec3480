-- What the loops over blocks reach is what `cart_fwd_of` and `cart_inv_of` say, number by number.
-- Assumes nothing.
use mathlib.Core.Path.{◌≡◌, refl, ◌∙◌, sym}
use mathlib.Core.Bool.{Bool, true, false, not, cond}
use lib.Ieee.{Float, lt}
use Rattle.floats.specs.Binary64.{◌⊗◌}
use Rattle.arctan.specs.Arctan.{atan2_of}
use Rattle.hypot.specs.Hypot.{hypot_of}
use Rattle.tuple.specs.declared.Tuple.{Tuple}
use Rattle.tuple.specs.declared.Shifted.{Shifted}
use Rattle.tuple.specs.Sums.{any_nan_of}
use Rattle.ellipsoid.specs.declared.Ellipsoid.{Ellipsoid}
use Rattle.geocart.specs.Geocart.{cartesian_of}
use Rattle.geocart_block.specs.Blocks.{latitude_of}
use Rattle.geocart_block.proofs.Parts.{through, either_way}
use Rattle.cart.specs.declared.Inverse.{Inverse}
use Rattle.cart.specs.Step.{cart_fwd_of, s0_of, c0_of, legs_with, legs_of, height_with, height_of, off_axis_of, on_axis_of, cart_inv_of}
use Rattle.cart_block.specs.Blocks.{level_of, counts_of}

-- ---- forward

pub counted_forward : (e : Ellipsoid) (v : Tuple) {x y z : Float} → x ≡ (cartesian_of e v).x → y ≡ (cartesian_of e v).y → z ≡ (cartesian_of e v).z → not (any_nan_of (record { x = x; y = y; z = z; t = v.t })) ≡ (cart_fwd_of e v).counted
unfolding cartesian_of
counted_forward e v x y z = rw (x, y, z)

-- ---- inverse

pub legs_are : (k : Inverse) (p Z : Float) {S0 C0 A : Float} → S0 ≡ s0_of k Z → C0 ≡ c0_of k p → A ≡ hypot_of S0 C0 → legs_with k p Z A ≡ legs_of k p Z
unfolding legs_of
legs_are k p Z sine cosine length = rw (length, cosine, sine)

pub height_from : (k : Inverse) (p Z S1 CC : Float) {r inner outer : Float} → r ≡ k.ar ⊗ S1 → inner ≡ hypot_of CC r → outer ≡ hypot_of CC S1 → level_of k p Z (height_with k p Z (record { s1 = S1; cc = CC }) inner outer) ≡ level_of k p Z (height_of k p Z (record { s1 = S1; cc = CC }))
unfolding height_of
height_from k p Z S1 CC reduced inner outer = rw (outer, inner, reduced)

-- whichever is taken, its count is known from the numbers taken
counted-either : (b : Bool) (u w : Shifted) → u.counted ≡ false → w.counted ≡ not (any_nan_of w.tuple) → cond b false (not (any_nan_of (record { x = (cond b u w).tuple.x; y = (cond b u w).tuple.y; z = (cond b u w).tuple.z; t = w.tuple.t }))) ≡ (cond b u w).counted
counted-either true u w on off = sym on
counted-either false u w on off = sym off

module _ (k : Inverse) (v : Tuple) where
  near : Bool
  near = lt (hypot_of v.x v.y) k.cutoff

  pub longitude-is : atan2_of v.y v.x ≡ (cart_inv_of k v).tuple.x
  unfolding cart_inv_of on_axis_of off_axis_of near
  longitude-is = sym (either_way near _) ∙ sym (through (λ (r : Shifted). r.tuple.x) near _ _)

  pub latitude-is : {p s1 cc phi : Float} → p ≡ hypot_of v.x v.y → s1 ≡ (legs_of k p v.z).s1 → cc ≡ (legs_of k p v.z).cc → phi ≡ atan2_of s1 cc → latitude_of k.cutoff p v.z phi ≡ (cart_inv_of k v).tuple.y
  unfolding cart_inv_of on_axis_of off_axis_of near
  latitude-is length above from angle = rw (angle, above, from, length) (sym (through (λ (r : Shifted). r.tuple.y) near _ _))

  pub height-is : {p s1 cc : Float} → p ≡ hypot_of v.x v.y → s1 ≡ (legs_of k p v.z).s1 → cc ≡ (legs_of k p v.z).cc → level_of k p v.z (height_of k p v.z (record { s1 = s1; cc = cc })) ≡ (cart_inv_of k v).tuple.z
  unfolding cart_inv_of on_axis_of off_axis_of near
  height-is length above from = rw (above, from, length) (sym (through (λ (r : Shifted). r.tuple.z) near _ _))

  pub counted-inverse : {p lam phi h : Float} → p ≡ hypot_of v.x v.y → lam ≡ (cart_inv_of k v).tuple.x → phi ≡ (cart_inv_of k v).tuple.y → h ≡ (cart_inv_of k v).tuple.z → counts_of k p (record { x = lam; y = phi; z = h; t = v.t }) ≡ (cart_inv_of k v).counted
  unfolding cart_inv_of on_axis_of off_axis_of near
  counted-inverse length x y z = rw (length, x, y, z) (counted-either near _ _ refl refl)
