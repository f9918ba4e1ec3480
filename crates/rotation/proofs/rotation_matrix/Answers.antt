-- Exact angles go to `exact_matrix`. The two small-angle matrices are written out in the code; that the
-- definition's products with 1.0 give the same nine numbers, for every angle that binary64 holds, is
-- `small_angle_rows` and, transposed, `small_angle_columns`. Assumes nothing.
use Rattle.rotation.specs.Matrix.{rotation_matrix_of}
use Rattle.rotation.proofs.Laws.{small_angle_rows, small_angle_columns}
use Rattle.std.proofs.Common.{rules}
use Rattle.rotation.proofs.rotation_matrix.Goals as goal

pub returns-then-exact : goal.returns-then-exact
unfolding rotation_matrix_of
returns-then-exact c = rw (c.exact_matrix.ensures, c.exact_sines.ensures, c.if-exact.true)

-- position vector: that binary64 holds the angles is known where the record's fields are read
pub returns-then-position_vector : goal.returns-then-position_vector
returns-then-position_vector c =
    rw (c.if-position_vector.true, c.if-exact.false, small_angle_columns c.args.r (search rules) (search rules) (search rules))

-- coordinate frame
pub returns : goal.returns
returns c =
    rw (c.if-position_vector.false, c.if-exact.false, small_angle_rows c.args.r (search rules) (search rules) (search rules))
