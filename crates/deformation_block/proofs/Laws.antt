-- What the step over columns is proved by: the correction out of its parts, what is written at a
-- place, and the same over all places. Assumes nothing.
use Prim.Native.Nat.{ℕ, ◌<◌}
use mathlib.Core.Bool.{Bool, true, false, cond}
use mathlib.Core.List.{List}
use mathlib.Core.Path.{◌≡◌, refl, ap, ◌∙◌, sym}
use lib.Dec.{eqb}
use lib.Ieee.{Float, nan}
use lib.Ieee.Scale.{finite}
use Rattle.floats.specs.Binary64.{◌⊕◌, bits}
use Rattle.blocks.specs.Each.{at, whole_at, Each, count_to}
use Rattle.blocks.proofs.Laws.{told}
use Rattle.blocks.proofs.Counts.{count_told}
use Rattle.root.specs.Sqrt.{sqrt_of}
use Rattle.trig.specs.Trig.{sin_of, cos_of}
use Rattle.tuple.specs.declared.Tuple.{Tuple}
use Rattle.tuple.specs.declared.Shifted.{Shifted}
use Rattle.tuple.specs.Sums.{nan_tuple, add_of, dot_of}
use Rattle.tuple.specs.Columns.{row_of}
use Rattle.geocart.specs.Geocart.{place_of}
use Rattle.geocart.proofs.Laws.{geographic_time}
use Rattle.deformation.specs.declared.Motion.{Motion}
use Rattle.deformation.specs.declared.Velocity.{Velocity}
use Rattle.deformation.specs.Step.{lasting_of, duration_of, scale_of, metre_of, east_north_up_of, with_length_of, correction_of, deformed_of, deformed_at_of, common_of}
use Rattle.deformation_block.specs.Places.{velocity_of, geo_at, moved_at, turned_at, correction_at, kept_of}

-- ---- the correction

module _ (op : Motion) (inverse : Bool) (v : Velocity) (geo : Tuple) where
  -- from the sines and cosines of a place
  pub turned-corrects :
      {fixed : Bool} {k slon clon slat clat : Float}
      → fixed ≡ finite op.dt → k ≡ metre_of inverse
      → slon ≡ sin_of geo.x → clon ≡ cos_of geo.x → slat ≡ sin_of geo.y → clat ≡ cos_of geo.y
      → east_north_up_of (scale_of v k) (record { s = slon; c = clon }) (record { s = slat; c = clat }) (lasting_of op fixed geo.t) ≡ correction_of op inverse v geo
  unfolding correction_of duration_of
  turned-corrects given metre slon clon slat clat = rw (slon, clon, slat, clat, given, metre)

  -- from its columns
  pub columns-correct :
      {dx dy dz : Float}
      → dx ≡ (correction_of op inverse v geo).x → dy ≡ (correction_of op inverse v geo).y → dz ≡ (correction_of op inverse v geo).z
      → ◌≡◌ {A = Tuple} (record { x = dx; y = dy; z = dz; t = bits 0 }) (correction_of op inverse v geo)
  unfolding correction_of east_north_up_of
  columns-correct x y z = rw (x, y, z)

  -- its length in the fourth place, or the sum with it, is what the step makes of a tuple
  pub raw-deforms : (cart : Tuple) {d : Tuple} → op.raw ≡ true → d ≡ correction_of op inverse v geo → with_length_of d ≡ deformed_of op inverse v geo cart
  unfolding deformed_of
  raw-deforms cart raw e = rw (e, raw)

  pub sum-deforms : (cart : Tuple) {d : Tuple} → op.raw ≡ false → d ≡ correction_of op inverse v geo → add_of cart d ≡ deformed_of op inverse v geo cart
  unfolding deformed_of
  sum-deforms cart raw e = rw (e, raw)

-- ---- what is written

either : (b : Bool) (u : Tuple) (f : Tuple → Float) → f nan_tuple ≡ nan → cond b (f u) nan ≡ f (cond {A = Shifted} b (record { tuple = u; counted = true }) (record { tuple = nan_tuple; counted = false })).tuple
either true u f e = refl
either false u f e = sym e

counts : (b : Bool) (u : Tuple) → b ≡ (cond {A = Shifted} b (record { tuple = u; counted = true }) (record { tuple = nan_tuple; counted = false })).counted
counts true u = refl
counts false u = refl

module _ (op : Motion) (inverse : Bool) (v : Velocity) (mark : ℕ) (cart : Tuple) where
  -- a number of what the step makes of the tuple, or NaN
  pub kept-is : (geo : Tuple) (f : Tuple → Float) {u : Tuple} → f nan_tuple ≡ nan → u ≡ deformed_of op inverse v geo cart → kept_of mark (f u) ≡ f (deformed_at_of op inverse v mark geo cart).tuple
  unfolding deformed_at_of
  kept-is geo f nans e = rw e (either (eqb mark 1) _ f nans)

  -- a tuple counts where its mark is 1
  pub mark-counts : (geo : Tuple) → eqb mark 1 ≡ (deformed_at_of op inverse v mark geo cart).counted
  unfolding deformed_at_of
  mark-counts geo = counts (eqb mark 1) _

  -- with the place of the tuple itself it is the step
  pub moved-common :
      (geo : Tuple) → geo.x ≡ (place_of op.ellps cart).lam → geo.y ≡ (place_of op.ellps cart).phi → geo.t ≡ cart.t
      → deformed_at_of op inverse v mark geo cart ≡ common_of op inverse v mark cart
  unfolding correction_of deformed_of deformed_at_of common_of
  moved-common geo lam phi time = rw (lam, phi, time, geographic_time)

-- ---- the same over columns

module _ (op : Motion) (inverse : Bool) (east north up : List Float) (marks : List ℕ) (lam phi x y z t : List Float) where
  -- columns that hold the corrections
  abbrev pub Corrections : List Float → List Float → List Float → Type 0
  Corrections dx dy dz =
      Each dx (λ (j : ℕ). (correction_of op inverse (velocity_of east north up j) (geo_at lam phi t j)).x)
      × Each dy (λ (j : ℕ). (correction_of op inverse (velocity_of east north up j) (geo_at lam phi t j)).y)
      × Each dz (λ (j : ℕ). (correction_of op inverse (velocity_of east north up j) (geo_at lam phi t j)).z)

  -- columns that hold what the step makes of the tuples, and how many count
  abbrev pub Moved : List Float → List Float → List Float → List Float → ℕ → Type 0
  Moved ox oy oz ot n =
      Each ox (λ (j : ℕ). (moved_at op inverse east north up marks lam phi x y z t j).tuple.x)
      × Each oy (λ (j : ℕ). (moved_at op inverse east north up marks lam phi x y z t j).tuple.y)
      × Each oz (λ (j : ℕ). (moved_at op inverse east north up marks lam phi x y z t j).tuple.z)
      × Each ot (λ (j : ℕ). (moved_at op inverse east north up marks lam phi x y z t j).tuple.t)
      × (n ≡ count_to 16 (λ (j : ℕ). (moved_at op inverse east north up marks lam phi x y z t j).counted))

  pub turned-all :
      {fixed : Bool} {k : Float} {slon clon slat clat dx dy dz : List Float}
      → Each dx (λ (j : ℕ). (turned_at op fixed k east north up t slon clon slat clat j).x) → Each dy (λ (j : ℕ). (turned_at op fixed k east north up t slon clon slat clat j).y) → Each dz (λ (j : ℕ). (turned_at op fixed k east north up t slon clon slat clat j).z)
      → fixed ≡ finite op.dt → k ≡ metre_of inverse
      → Each slon (λ (j : ℕ). sin_of (at lam j)) → Each clon (λ (j : ℕ). cos_of (at lam j))
      → Each slat (λ (j : ℕ). sin_of (at phi j)) → Each clat (λ (j : ℕ). cos_of (at phi j))
      → Corrections dx dy dz
  turned-all {fixed} {k} {slon} {clon} {slat} {clat} hx hy hz given metre hsl hcl hsp hcp =
      (told (λ j i. ap (λ (r : Tuple). r.x) (same j i)) hx, told (λ j i. ap (λ (r : Tuple). r.y) (same j i)) hy, told (λ j i. ap (λ (r : Tuple). r.z) (same j i)) hz)
    where
      same : (j : ℕ) → j < 16 → turned_at op fixed k east north up t slon clon slat clat j ≡ correction_of op inverse (velocity_of east north up j) (geo_at lam phi t j)
      same j i = turned-corrects op inverse (velocity_of east north up j) (geo_at lam phi t j) given metre (hsl.held j i) (hcl.held j i) (hsp.held j i) (hcp.held j i)

  corrects : {dx dy dz : List Float} → Corrections dx dy dz → (j : ℕ) → j < 16 → correction_at dx dy dz j ≡ correction_of op inverse (velocity_of east north up j) (geo_at lam phi t j)
  corrects c j i = columns-correct op inverse (velocity_of east north up j) (geo_at lam phi t j) (c.0.held j i) (c.1.held j i) (c.2.held j i)

  -- columns that keep the numbers of tuples u, which are what the step makes
  kept-all :
      (u : ℕ → Tuple) {ox oy oz ot : List Float} {n : ℕ}
      → ((j : ℕ) → j < 16 → u j ≡ deformed_of op inverse (velocity_of east north up j) (geo_at lam phi t j) (row_of x y z t j))
      → Each ox (λ (j : ℕ). kept_of (whole_at marks j) (u j).x)
      → Each oy (λ (j : ℕ). kept_of (whole_at marks j) (u j).y)
      → Each oz (λ (j : ℕ). kept_of (whole_at marks j) (u j).z)
      → Each ot (λ (j : ℕ). kept_of (whole_at marks j) (u j).t)
      → n ≡ count_to 16 (λ (j : ℕ). eqb (whole_at marks j) 1)
      → Moved ox oy oz ot n
  kept-all u makes hx hy hz ht count = (
    told (λ j i. keeps j i (λ (r : Tuple). r.x) refl) hx,
    told (λ j i. keeps j i (λ (r : Tuple). r.y) refl) hy,
    told (λ j i. keeps j i (λ (r : Tuple). r.z) refl) hz,
    told (λ j i. keeps j i (λ (r : Tuple). r.t) refl) ht,
    count ∙ count_told 16 _ _ (λ j _. mark-counts op inverse (velocity_of east north up j) (whole_at marks j) (row_of x y z t j) (geo_at lam phi t j)),
  )
    where
      keeps : (j : ℕ) → j < 16 → (f : Tuple → Float) → f nan_tuple ≡ nan → kept_of (whole_at marks j) (f (u j)) ≡ f (moved_at op inverse east north up marks lam phi x y z t j).tuple
      keeps j i f nans = kept-is op inverse (velocity_of east north up j) (whole_at marks j) (row_of x y z t j) (geo_at lam phi t j) f nans (makes j i)

  -- the corrections with their lengths
  pub raw-all :
      {dx dy dz length ox oy oz ot : List Float} {n : ℕ}
      → op.raw ≡ true → Corrections dx dy dz
      → Each length (λ (j : ℕ). sqrt_of (dot_of (correction_at dx dy dz j) (correction_at dx dy dz j)))
      → Each ox (λ (j : ℕ). kept_of (whole_at marks j) (at dx j))
      → Each oy (λ (j : ℕ). kept_of (whole_at marks j) (at dy j))
      → Each oz (λ (j : ℕ). kept_of (whole_at marks j) (at dz j))
      → Each ot (λ (j : ℕ). kept_of (whole_at marks j) (at length j))
      → n ≡ count_to 16 (λ (j : ℕ). eqb (whole_at marks j) 1)
      → Moved ox oy oz ot n
  unfolding with_length_of
  raw-all {dx} {dy} {dz} raw c hl hx hy hz ht count =
      kept-all (λ (j : ℕ). with_length_of (correction_at dx dy dz j))
      (λ j i. raw-deforms op inverse (velocity_of east north up j) (geo_at lam phi t j) (row_of x y z t j) raw (corrects c j i))
      hx hy hz (told (λ j i. ap (λ (l : Float). kept_of (whole_at marks j) l) (hl.held j i)) ht) count

  -- the sums
  pub sum-all :
      {dx dy dz ox oy oz ot : List Float} {n : ℕ}
      → op.raw ≡ false → Corrections dx dy dz
      → Each ox (λ (j : ℕ). kept_of (whole_at marks j) (at x j ⊕ at dx j))
      → Each oy (λ (j : ℕ). kept_of (whole_at marks j) (at y j ⊕ at dy j))
      → Each oz (λ (j : ℕ). kept_of (whole_at marks j) (at z j ⊕ at dz j))
      → Each ot (λ (j : ℕ). kept_of (whole_at marks j) (at t j ⊕ bits 0))
      → n ≡ count_to 16 (λ (j : ℕ). eqb (whole_at marks j) 1)
      → Moved ox oy oz ot n
  sum-all {dx} {dy} {dz} raw c hx hy hz ht count =
      kept-all (λ (j : ℕ). add_of (row_of x y z t j) (correction_at dx dy dz j))
      (λ j i. sum-deforms op inverse (velocity_of east north up j) (geo_at lam phi t j) (row_of x y z t j) raw (corrects c j i))
      hx hy hz ht count
