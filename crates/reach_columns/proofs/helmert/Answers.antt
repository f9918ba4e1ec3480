-- Where the shift is not exact or not rotated no row meets it (`unused_met`). Columns of one length
-- go through `helmert_rows`; others stand for no tuple (`flat-uneven`). Assumes nothing.
use mathlib.Core.Path.{sym, ◌∙◌}
use Rattle.helmert.specs.Turns.{helmert_turns}
use Rattle.columns.specs.Columns.{flat_of}
use Rattle.columns.proofs.Laws.{level_told, flat-uneven}
use Rattle.reach.specs.Met.{meeting_of, helmert_met}
use Rattle.reach.proofs.Modes.{both_told, unused_met}
use Rattle.reach_columns.proofs.Along.{count_none}
use Rattle.reach_columns.proofs.helmert.Goals as goal

pub helmert_rows-requires : goal.helmert_rows-requires
helmert_rows-requires c =
    let used = both_told _ _ c.if-shift.true in
    (level_told _ _ _ _ (sym c.level.ensures ∙ c.if-level.true), used.1, used.0)

pub returns-then-level : goal.returns-then-level
returns-then-level c = c.helmert_rows.ensures

pub returns-else-level : goal.returns-else-level
returns-else-level c = rw (flat-uneven _ _ _ _ (sym c.level.ensures ∙ c.if-level.false))

pub returns-else-shift : goal.returns-else-shift
returns-else-shift c =
    let a = c.args in
    let f = meeting_of (helmert_met a.shift) (helmert_turns a.inverse a.shift) in
    sym (count_none f (λ k state v. unused_met a.shift state v c.if-shift.false) 0 a.from (flat_of a.x.now a.y.now a.z.now a.t.now))
