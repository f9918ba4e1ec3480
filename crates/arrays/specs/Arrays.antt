-- Records and tuples from the arrays that C lends: a line a field, with its place in the array.
use Rattle.std.specs.Prelude.{ℕ, ◌+◌, List, get_or, Float}
use Rattle.std.specs.Float.{nan}
use Rattle.tuple.specs.declared.Tuple.{Tuple}
use Rattle.rotation.specs.declared.Vec3.{Vec3}
use Rattle.helmert.specs.declared.Helmert.{Helmert as HelmertRecord}
use Rattle.badekas.specs.declared.Badekas.{Badekas as BadekasRecord}
use Rattle.molodensky.specs.declared.Molodensky.{Molodensky as MolodenskyRecord}

abbrev pub at : List Float → ℕ → Float
at numbers i = get_or numbers i nan

-- x, y, z, t
abbrev pub tuple_of : List Float → Tuple
tuple_of fix = record { x = at fix 0; y = at fix 1; z = at fix 2; t = at fix 3 }

-- three numbers from a place on
abbrev pub three_at : List Float → ℕ → Vec3
three_at numbers i = record { x = at numbers i; y = at numbers (i + 1); z = at numbers (i + 2) }

-- the 30 numbers of a Helmert body, in the body's order
unfoldable pub helmert_of : ℕ → ℕ → List Float → HelmertRecord
helmert_of flags convention numbers =
    record {
      flags = flags;
      convention = convention;
      translation = three_at numbers 0;
      xyz = three_at numbers 3;
      translation_rate = three_at numbers 6;
      dxyz = three_at numbers 9;
      rotation = three_at numbers 12;
      rxyz = three_at numbers 15;
      rotation_rate = three_at numbers 18;
      drxyz = three_at numbers 21;
      scale = at numbers 24;
      s = at numbers 25;
      scale_rate = at numbers 26;
      ds = at numbers 27;
      t_epoch = at numbers 28;
      t_obs = at numbers 29;
    }

-- dx, dy, dz, da, df
unfoldable pub molodensky_of : ℕ → ℕ → ℕ → List Float → MolodenskyRecord
molodensky_of flags first second numbers =
    record {
      flags = flags;
      first = first;
      second = second;
      dx = at numbers 0;
      dy = at numbers 1;
      dz = at numbers 2;
      da = at numbers 3;
      df = at numbers 4;
    }

-- translation, rotation, scale, pivot
unfoldable pub badekas_of : ℕ → ℕ → List Float → BadekasRecord
badekas_of flags convention numbers =
    record {
      flags = flags;
      convention = convention;
      translation = three_at numbers 0;
      rotation = three_at numbers 3;
      scale = at numbers 6;
      pivot = three_at numbers 7;
    }
