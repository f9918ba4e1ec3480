-- One case for each way through the tests. Each by `good_job`, from what the calls ensure.
-- Assumes nothing.
use mathlib.Core.Path.{sym, ◌∙◌}
use Prim.Native.Nat.{◌*◌}
use native.Mathlib.Omega.{arith}
use lib.ListN.{length-take}
use lib.Seq.{length-take-le}
use Rattle.answer.specs.Answer.{lent_answer_of}
use Rattle.answer.proofs.Laws.{good_job}
use Rattle.answer.proofs.answered.Goals as goal

pub returns-then-is_bad : goal.returns-then-is_bad
unfolding lent_answer_of
returns-then-is_bad c = rw (← c.read_head-head.ensures, ← c.is_bad.ensures, c.if-is_bad.true) c.refused.ensures

pub slice_bounds-list-end : goal.slice_bounds-list-end
slice_bounds-list-end c = let g = good_job _ _ (sym c.is_bad.ensures ∙ c.if-is_bad.false) in omega arith

pub slice_bounds-shifted-end : goal.slice_bounds-shifted-end
slice_bounds-shifted-end c = let g = good_job _ _ (sym c.is_bad.ensures ∙ c.if-is_bad.false) in sym (length-take-le (4 * c.wide-n.result) c.zeros-list.result (omega arith))

pub slice_bounds-velocities-end : goal.slice_bounds-velocities-end
slice_bounds-velocities-end c = let g = good_job _ _ (sym c.is_bad.ensures ∙ c.if-is_bad.false) in omega arith

pub slice_bounds-shifted-end-2 : goal.slice_bounds-shifted-end-2
slice_bounds-shifted-end-2 c = let g = good_job _ _ (sym c.is_bad.ensures ∙ c.if-is_bad.false) in sym (length-take-le (3 * c.wide-m.result) c.zeros-velocities.result (omega arith))

pub shifted-requires : goal.shifted-requires
shifted-requires c = let g = good_job _ _ (sym c.is_bad.ensures ∙ c.if-is_bad.false) in (c.read_head-head.ensures, omega arith, simp length-take (omega arith), simp length-take (omega arith))

pub returns : goal.returns
unfolding lent_answer_of
returns c = rw (← c.read_head-head.ensures, ← c.is_bad.ensures, c.if-is_bad.false) c.shifted.ensures
