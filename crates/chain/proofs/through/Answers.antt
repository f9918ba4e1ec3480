-- The list into columns, the steps over those, and back: three equations joined. Assumes nothing.
use mathlib.Core.Path.{◌∙◌}
use borrow.Author.Rules.{rules}
use Rattle.step_windows.proofs.Back.{to_rows, from_rows}
use Rattle.chain.proofs.through.Goals as goal

pub over_columns-tallies-requires : goal.over_columns-tallies-requires
over_columns-tallies-requires c =
    let p = c.requires in
    (p.0, p.1, (search (rules, p.2.0), search (rules, p.2.1), search (rules, p.2.2)), search (rules, p.4))

pub returns : goal.returns
returns c =
    let p = c.requires in
    let there = to_rows _ _ _ _ _ c.to_columns.ensures p.2 p.3 in
    let e = c.over_columns-tallies.ensures in
    let back = from_rows _ _ _ _ _ c.to_flat.ensures (
      search (rules, p.2.0),
      search (rules, p.2.1),
      search (rules, p.2.2),
    ) (search (rules, p.3)) in
    rw (← there) (back ∙ e.0, e.1)
