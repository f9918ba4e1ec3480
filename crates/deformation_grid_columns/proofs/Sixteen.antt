-- Sixteen rows moved by the velocities found at their places are what the step makes of them: the
-- block form's blocks hold what the step gives for each row (`moved-there`), so the blocks and the
-- count are the step's (`moved-made`). Assumes nothing.
use Prim.Native.Nat.{ℕ, ◌<◌}
use mathlib.Core.Path.{◌≡◌, refl, ap, ◌∙◌}
use mathlib.Core.Bool.{Bool, false}
use mathlib.Core.List.{List}
use lib.Ieee.{Float}
use Rattle.blocks.specs.Each.{at, whole_at, Each, EachWhole, count_to}
use Rattle.blocks.proofs.Counts.{count_told}
use Rattle.blocks.proofs.Laws.{told}
use Rattle.tuple.specs.declared.Shifted.{Shifted}
use Rattle.tuple.specs.Columns.{row_of}
use Rattle.geocart.specs.Geocart.{place_of}
use Rattle.deformation.specs.declared.Motion.{Motion}
use Rattle.deformation_block.specs.Places.{velocity_of, geo_at, moved_at}
use Rattle.deformation_block.proofs.Laws.{moved-common}
use Rattle.grid.specs.declared.Axis.{Axis}
use Rattle.grid.specs.Lookup.{found_in}
use Rattle.deformation_grid.specs.Gridded.{gridded_in}

module _ (s : List ℕ) (down across : Axis) (op : Motion) (inverse : Bool) (x y z t : List Float) {east north up lam phi : List Float} {m : List ℕ}
    (found : EachWhole m (λ (j : ℕ). (found_in s down across (at lam j) (at phi j)).mark)
    × Each east (λ (j : ℕ). (found_in s down across (at lam j) (at phi j)).east)
    × Each north (λ (j : ℕ). (found_in s down across (at lam j) (at phi j)).north)
    × Each up (λ (j : ℕ). (found_in s down across (at lam j) (at phi j)).up))
    (hl : Each lam (λ (j : ℕ). (place_of op.ellps (row_of x y z t j)).lam)) (hp : Each phi (λ (j : ℕ). (place_of op.ellps (row_of x y z t j)).phi)) where
  moved-there : (j : ℕ) → j < 16 → moved_at op inverse east north up m lam phi x y z t j ≡ gridded_in op inverse s down across (row_of x y z t j)
  unfolding gridded_in
  moved-there j h =
      moved-common op inverse (velocity_of east north up j) (whole_at m j) (row_of x y z t j) (geo_at lam phi t j) (hl.held j h) (hp.held j h) refl
      ∙ rw (found.0.held j h, found.1.held j h, found.2.held j h, found.3.held j h, hl.held j h, hp.held j h)

  pub moved-made : {ox oy oz ot : List Float} {n : ℕ}
      → Each ox (λ (j : ℕ). (moved_at op inverse east north up m lam phi x y z t j).tuple.x) × Each oy (λ (j : ℕ). (moved_at op inverse east north up m lam phi x y z t j).tuple.y)
      × Each oz (λ (j : ℕ). (moved_at op inverse east north up m lam phi x y z t j).tuple.z) × Each ot (λ (j : ℕ). (moved_at op inverse east north up m lam phi x y z t j).tuple.t)
      × (n ≡ count_to 16 (λ (j : ℕ). (moved_at op inverse east north up m lam phi x y z t j).counted))
      → Each ox (λ (j : ℕ). (gridded_in op inverse s down across (row_of x y z t j)).tuple.x) × Each oy (λ (j : ℕ). (gridded_in op inverse s down across (row_of x y z t j)).tuple.y)
      × Each oz (λ (j : ℕ). (gridded_in op inverse s down across (row_of x y z t j)).tuple.z) × Each ot (λ (j : ℕ). (gridded_in op inverse s down across (row_of x y z t j)).tuple.t)
      × (n ≡ count_to 16 (λ (j : ℕ). (gridded_in op inverse s down across (row_of x y z t j)).counted))
      × (0 ≡ count_to 16 (λ (j : ℕ). false))
  moved-made made =
      (told (λ j h. ap (λ (shifted : Shifted). shifted.tuple.x) (moved-there j h)) made.0, told (λ j h. ap (λ (shifted : Shifted). shifted.tuple.y) (moved-there j h)) made.1, told (λ j h. ap (λ (shifted : Shifted). shifted.tuple.z) (moved-there j h)) made.2, told (λ j h. ap (λ (shifted : Shifted). shifted.tuple.t) (moved-there j h)) made.3, made.4 ∙ count_told 16 _ _ (λ j h. ap (λ (shifted : Shifted). shifted.counted) (moved-there j h)), refl)
