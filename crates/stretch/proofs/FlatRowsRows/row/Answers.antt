-- Past the last row no whole tuple stands (`none_there`). Assumes nothing.
use native.Mathlib.Omega.{arith}
use Prim.Native.Nat.{◌*◌}
use mathlib.Core.Path.{sym, ◌∙◌}
use Rattle.lists.proofs.Places.{none_there}
use Rattle.stretch.proofs.FlatRowsRows.row.Goals as goal

pub returns-else-i-self : goal.returns-else-i-self
returns-else-i-self c =
    c.nan.ensures ∙ sym (none_there c.args.self.now.list.now (4 * c.args.i) (omega (arith, c.if-i-self.false)))
