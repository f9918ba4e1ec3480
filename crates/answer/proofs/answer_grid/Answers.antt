-- The test of the length chooses between 16 (`cut_short`) and the answer of the two parts
-- (`two_parts`). Assumes nothing.
use mathlib.Core.Path.{sym, ap, ◌∙◌}
use Prim.Native.Nat.{◌+◌}
use lib.Seq.{length-take-le}
use Rattle.text.specs.Text.{text, appended}
use Rattle.answer.specs.Answer.{is_lent, grid_in}
use Rattle.answer.proofs.Laws.{cut_short, two_parts}
use Rattle.answer.proofs.answer_grid.Goals as goal

pub returns-then-bytes-end : goal.returns-then-bytes-end
returns-then-bytes-end c =
    c.refused.ensures
    ∙ ap (appended (text c.args.room.now 0))
    (cut_short c.args.bytes.now c.read_head-head.result c.marks_at.result c.wide.result
    c.read_head-head.ensures c.marks_at.ensures.0 c.wide.ensures.0 c.if-bytes-end.true)

pub slice_bounds-answered-end-2 : goal.slice_bounds-answered-end-2
slice_bounds-answered-end-2 c = sym (length-take-le (c.marks_at.result + c.wide.result) c.args.bytes.now c.if-bytes-end.false)

pub returns : goal.returns
unfolding is_lent grid_in
returns c =
    c.answered.ensures
    ∙ ap (appended (text c.args.room.now 0))
    (two_parts c.args.bytes.now c.read_head-head.result c.marks_at.result c.wide.result
    c.read_head-head.ensures c.marks_at.ensures.0 c.wide.ensures.0 c.if-bytes-end.false)
