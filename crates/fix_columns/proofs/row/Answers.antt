-- The row read is the flat list's tuple, and a tuple put where it was read is one row passed
-- (`passed-row`), of the step's turns and of those that count what is told beside. Assumes nothing.
use Rattle.columns.proofs.Laws.{room}
use Rattle.columns.proofs.Passed.{passed-row}
use Rattle.helmert.specs.Turns.{no_state}
use Rattle.fix_columns.specs.Fixes.{fix_turns, fix_met_turns}
use Rattle.fix_columns.proofs.row.Goals as goal

pub returns : goal.returns
returns g c =
    let a = c.args in
    let f = g.S.FixStep.shifted a.step in
    let e = rw c.read_row.ensures at c.one-r.ensures in
    let fits = room _ _ _ _ c.requires.0 a.i c.requires.1 in (
      rw c.one_if.ensures.0 (passed-row {f = fix_turns f} {state = no_state} a.i fits e.0 e.1 c.write_row.ensures),
      rw c.one_if-2.ensures.0 (passed-row {f = fix_met_turns f (g.S.FixStep.met a.step)} {state = no_state} a.i fits e.0 e.2 c.write_row.ensures),
    )
