-- The job's parts lie within it, since its marks do; velocities are at most 512, three numbers each.
-- Assumes nothing.
use mathlib.Core.Path.{sym}
use lib.Seq.{length-take-le}
use borrow.Author.Rules.{rules}
use Rattle.display.proofs.shift.Goals as goal

pub slice_bounds-shift_columns-end-2 : goal.slice_bounds-shift_columns-end-2
slice_bounds-shift_columns-end-2 c = sym (length-take-le _ _ (search rules))
