-- Where the two lists fit together (`as_long_told`), `track_by_windows` writes; else nothing is
-- written. Assumes nothing.
use mathlib.Core.Path.{sym, ◌∙◌}
use Rattle.stretch.proofs.Fits.{as_long_told}
use Rattle.stretch_flat_track.proofs.track_list.Goals as goal

pub track_by_windows-requires : goal.track_by_windows-requires
track_by_windows-requires c = as_long_told _ _ (sym c.as_long.ensures ∙ c.if-as_long.true)

pub returns-then-as_long : goal.returns-then-as_long
returns-then-as_long c = rw (sym c.as_long.ensures ∙ c.if-as_long.true) c.track_by_windows.ensures

pub returns-else-as_long : goal.returns-else-as_long
returns-else-as_long c = rw (sym c.as_long.ensures ∙ c.if-as_long.false)
