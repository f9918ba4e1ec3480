-- The window into columns, the step over those, and back: three equations joined. Assumes nothing.
use mathlib.Core.Path.{◌∙◌}
use borrow.Author.Rules.{rules}
use Rattle.step_windows.proofs.Back.{to_rows, from_rows}
use Rattle.step_windows.proofs.window.Goals as goal

pub returns : goal.returns
returns c =
    let p = c.requires in
    let there = to_rows _ _ _ _ _ c.to_columns.ensures p.0 p.1 in
    let e = c.run-part.ensures in
    let back = from_rows _ _ _ _ _ c.to_flat.ensures (
      search (rules, p.0.0),
      search (rules, p.0.1),
      search (rules, p.0.2),
    ) (search (rules, p.1)) in
    rw (← there) (back ∙ e.0, e.1, e.2, e.3)
