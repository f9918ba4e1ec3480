-- By `parts`, from what the calls ensure. Assumes nothing.
use mathlib.Core.Path.{ap, ◌∙◌}
use lib.ListN.{length}
use Rattle.text.specs.Text.{text, appended}
use Rattle.answer.specs.Answer.{is_lent, grid_in}
use Rattle.answer.proofs.Laws.{parts}
use Rattle.answer.proofs.shifted.Goals as goal

pub returns : goal.returns
returns c =
    c.told.ensures
    ∙ ap (appended (text c.args.room.now 0))
    (parts (is_lent c.args.grid) (grid_in c.args.grid) c.args.job.now c.args.head c.tuples_at-a.result c.velocities_at-b.result c.marks_at-c.result
    (length c.args.list.now) (length c.args.velocities.now) c.requires.0 c.tuples_at-a.ensures.0 c.velocities_at-b.ensures.0 c.marks_at-c.ensures.0
    c.requires.2 c.requires.3 c.numbers.ensures c.numbers-2.ensures)
