-- The record of a ten-parameter shift as the sheet carries it: flags 1 exact, 2 uas, 4 mm; a
-- convention; translation, rotation, scale; and the pivot, always in metres.
use Rattle.std.specs.Float.{nan}
use Rattle.floats.specs.Binary64.{bits}
use Rattle.helmert.specs.declared.Helmert.{Helmert}
use Rattle.helmert.specs.Record.{zero3}
use Rattle.badekas.specs.declared.Badekas.{Badekas}

-- the record to begin with
abbrev pub blank_badekas : Badekas
blank_badekas = record { flags = 0; convention = 0; translation = zero3; rotation = zero3; scale = bits 0; pivot = zero3 }

-- the Helmert record with the same numbers: no pivot, no rates, no times
unfoldable pub helmert_of : Badekas → Helmert
helmert_of r =
    record {
      flags = r.flags;
      convention = r.convention;
      translation = r.translation;
      xyz = zero3;
      translation_rate = zero3;
      dxyz = zero3;
      rotation = r.rotation;
      rxyz = zero3;
      rotation_rate = zero3;
      drxyz = zero3;
      scale = r.scale;
      s = bits 0;
      scale_rate = bits 0;
      ds = bits 0;
      t_epoch = nan;
      t_obs = nan;
    }
