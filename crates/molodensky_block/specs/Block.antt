-- The step at a place of the columns, as a block works it out: from the sines, the cosines and the
-- root on, and with the offsets as numbers.
use Rattle.std.specs.Prelude.{ℕ, List, Option, Some, None, Float}
use Rattle.std.specs.Float.{nan}
use Rattle.blocks.specs.Each.{at}
use Rattle.tuple.specs.Columns.{row_of}
use Rattle.ellipsoid.specs.Figure.{w_of, radii_with}
use Rattle.molodensky.specs.declared.Moped.{Moped}
use Rattle.molodensky.specs.declared.Place.{Place}
use Rattle.molodensky.specs.declared.Offsets.{Offsets}
use Rattle.molodensky.specs.Step.{place_with, abridged_with, full_offsets_of, offsets_of}

-- the offsets as numbers: NaN where there are none
abbrev pub shift_of : Option Offsets → Offsets
shift_of (Some o) = o
shift_of None = record { dlam = nan; dphi = nan; dh = nan }

-- the place at a place of the columns: of the sines and cosines, and of q, the root of w
abbrev pub place_at : Moped → List Float → List Float → List Float → List Float → List Float → ℕ → Place
place_at op slam clam sphi cphi q j =
    place_with op (at slam j) (at clam j) (at sphi j) (at cphi j) (radii_with op.ellps (w_of op.ellps (at sphi j)) (at q j))

abbrev pub full_at : Moped → List Float → List Float → List Float → List Float → List Float → List Float → ℕ → Offsets
full_at op h slam clam sphi cphi q j =
    shift_of (full_offsets_of op (place_at op slam clam sphi cphi q j) (at h j))

abbrev pub abridged_at : Moped → List Float → List Float → List Float → List Float → List Float → List Float → ℕ → Offsets
abridged_at op s slam clam sphi cphi q j =
    shift_of (abridged_with op (place_at op slam clam sphi cphi q j) (at s j))

-- no offset looks at the time: any column may stand for it
abbrev pub shift_at : Moped → List Float → List Float → List Float → ℕ → Offsets
shift_at op x y z j = shift_of (offsets_of op (row_of x y z z j))
