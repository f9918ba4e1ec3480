-- A ten-parameter record made ready: T, R and S in metres and radians as of the Helmert record with
-- the same numbers, and the pivot. The step that it is made ready for is Helmert's `step_of`, which
-- is static for it and goes about the pivot.
use Rattle.std.specs.Prelude.{true}
use Rattle.rotation.specs.declared.Vec3.{Vec3}
use Rattle.helmert.specs.declared.Shift.{Shift}
use Rattle.helmert.specs.Modes.{prepare_of}
use Rattle.badekas.specs.declared.Badekas.{Badekas}
use Rattle.badekas.specs.Record.{helmert_of}

-- a shift with a pivot, and all else as it was
unfoldable pub about_of : Shift → Vec3 → Shift
about_of shift pivot =
    record {
      parameters = shift.parameters;
      epoch = shift.epoch;
      rotated = shift.rotated;
      dynamic = shift.dynamic;
      fixed = shift.fixed;
      exact = shift.exact;
      position_vector = shift.position_vector;
      own_epoch = shift.own_epoch;
      pivoted = true;
      pivot = pivot;
    }

unfoldable pub shift_of : Badekas → Shift
shift_of r = about_of (prepare_of (helmert_of r)) r.pivot
