-- Calls are replaced by what they ensure; the definition is left. Assumes nothing.
use Rattle.sheet_plans.specs.Sheets.{plan_at}
use Rattle.sheet_plans.proofs.plan_at.Goals as goal

pub returns : goal.returns
unfolding plan_at
returns c = rw (c.plan_of.ensures, c.body_at-b.ensures, c.kind_at-kind.ensures, c.reversed_by-inv.ensures, c.inverted_at.ensures)
