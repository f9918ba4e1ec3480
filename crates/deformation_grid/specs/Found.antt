-- What a lookup finds for each tuple of a flat list, as velocities and marks could be lent for them.
-- The law `grid-run-is-lent-run` speaks of these lists; no code makes them.
use Rattle.std.specs.Prelude.{ℕ, List, [], ◌∷◌, Float}
use Rattle.ellipsoid.specs.declared.Ellipsoid.{Ellipsoid}
use Rattle.lists.specs.Flat.{four_of}
use Rattle.deformation_grid.specs.Gridded.{found_for}

-- east, north and up for each tuple; a rest shorter than a tuple has none
unfoldable pub velocities_found : Ellipsoid → List ℕ → List Float → List Float
velocities_found ellps s (x ∷ y ∷ z ∷ t ∷ rest) =
    let found = found_for ellps s (four_of x y z t) in
    found.east ∷ found.north ∷ found.up ∷ velocities_found ellps s rest
velocities_found ellps s (x ∷ y ∷ z ∷ []) = []
velocities_found ellps s (x ∷ y ∷ []) = []
velocities_found ellps s (x ∷ []) = []
velocities_found ellps s [] = []

-- a mark for each tuple
unfoldable pub marks_found : Ellipsoid → List ℕ → List Float → List ℕ
marks_found ellps s (x ∷ y ∷ z ∷ t ∷ rest) = (found_for ellps s (four_of x y z t)).mark ∷ marks_found ellps s rest
marks_found ellps s (x ∷ y ∷ z ∷ []) = []
marks_found ellps s (x ∷ y ∷ []) = []
marks_found ellps s (x ∷ []) = []
marks_found ellps s [] = []
