-- The window into columns, the steps over those, and back: three equations joined. Assumes nothing.
use mathlib.Core.Path.{◌∙◌}
use borrow.Author.Rules.{rules}
use Rattle.step_windows.proofs.Back.{to_rows, from_rows}
use Rattle.windows.proofs.window.Goals as goal

pub all_steps-requires : goal.all_steps-requires
all_steps-requires c =
    let p = c.requires in
    (p.0, (search (rules, p.1.0), search (rules, p.1.1), search (rules, p.1.2)), search (rules, p.3), p.4)

pub returns : goal.returns
returns c =
    let p = c.requires in
    let there = to_rows _ _ _ _ _ c.to_columns.ensures p.1 p.2 in
    let e = c.all_steps.ensures in
    let back = from_rows _ _ _ _ _ c.to_flat.ensures (
      search (rules, p.1.0),
      search (rules, p.1.1),
      search (rules, p.1.2),
    ) (search (rules, p.2)) in
    rw (← there) (back ∙ e.0, e.1)
