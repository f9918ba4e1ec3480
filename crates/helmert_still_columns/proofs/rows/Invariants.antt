-- Invariant: the rows before i have passed, for any f that tells what each call gives and keeps the
-- time. A turn is one row more (`turned-row`), and with no row left all have passed
-- (`passed_through`). Assumes nothing.
use mathlib.Core.Path.{◌≡◌}
use lib.ListN.{length}
use Rattle.tuple.specs.declared.Tuple.{Tuple}
use Rattle.columns.specs.Columns.{Level, flat_of}
use Rattle.columns.specs.Passed.{Passed}
use Rattle.helmert.specs.Turns.{no_state, all_turns}
use Rattle.helmert_still_columns.proofs.rows.Given as goal

abbrev pub invariant-loop-i : goal.invariant-loop-i
invariant-loop-i g l =
    Level l.x l.y l.z l.t × (length l.x ≡ length l.initial.x)
    × ((f : Tuple → Tuple) → ((v : Tuple) → (f v).t ≡ v.t) → ((v w : Tuple) → goal.F-post g l.to v w → w ≡ f v)
    → Passed (all_turns f) 0 no_state (flat_of l.initial.x l.initial.y l.initial.z l.t) l.i no_state (flat_of l.x l.y l.z l.t) l.i)
