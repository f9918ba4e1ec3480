-- Where the two lists fit together (`as_long_told`), `retrack_by_windows` writes; else nothing is
-- written. Assumes nothing.
use native.Mathlib.Omega.{arith}
use mathlib.Core.Path.{refl, sym, ◌∙◌}
use Rattle.stretch.proofs.Fits.{as_long_told}
use Rattle.stretch_flat_track.proofs.retrack_list.Goals as goal

pub retrack_by_windows-requires : goal.retrack_by_windows-requires
retrack_by_windows-requires c = as_long_told _ _ (sym c.as_long.ensures ∙ c.if-as_long.true)

pub returns-then-as_long : goal.returns-then-as_long
returns-then-as_long c = rw (sym c.as_long.ensures ∙ c.if-as_long.true) c.retrack_by_windows.ensures

pub returns : goal.returns
returns c = rw (sym c.as_long.ensures ∙ c.if-as_long.false) (refl, refl, omega arith)
