-- The record of a Helmert step as the sheet carries it: its flags, and the blank record.
use Rattle.std.specs.Prelude.{ℕ, ◌/◌, ◌%◌, Bool, eqb}
use Rattle.std.specs.Float.{nan}
use Rattle.floats.specs.Binary64.{bits}
use Rattle.rotation.specs.declared.Vec3.{Vec3}
use Rattle.helmert.specs.declared.Helmert.{Helmert}

-- ---- flags: 1 exact, 2 uas, 4 mm, 8 own-epoch

abbrev pub exact_of : Helmert → Bool
exact_of h = eqb (h.flags % 2) 1

abbrev pub uas_of : Helmert → Bool
uas_of h = eqb (h.flags / 2 % 2) 1

abbrev pub mm_of : Helmert → Bool
mm_of h = eqb (h.flags / 4 % 2) 1

abbrev pub own_epoch_of : Helmert → Bool
own_epoch_of h = eqb (h.flags / 8 % 2) 1

-- ---- records to begin with: zeros, no convention, both times not given

abbrev pub zero3 : Vec3
zero3 = record { x = bits 0; y = bits 0; z = bits 0 }

unfoldable pub zeros_with : ℕ → Helmert
zeros_with flags =
    record {
      flags = flags;
      convention = 0;
      translation = zero3;
      xyz = zero3;
      translation_rate = zero3;
      dxyz = zero3;
      rotation = zero3;
      rxyz = zero3;
      rotation_rate = zero3;
      drxyz = zero3;
      scale = bits 0;
      s = bits 0;
      scale_rate = bits 0;
      ds = bits 0;
      t_epoch = nan;
      t_obs = nan;
    }

-- The blank record: own-epoch, so that a fitter who begins here meets no order effect.
unfoldable pub blank_helmert : Helmert
blank_helmert = zeros_with 8

-- The record of zeros, without a flag. Bytes that are no Helmert body read as this one, and so does a
-- step of another kind; it is nothing to begin a sheet with.
unfoldable pub zero_helmert : Helmert
zero_helmert = zeros_with 0
