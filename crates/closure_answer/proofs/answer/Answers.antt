-- One case for each way through the test of the job (`good_job`). Assumes nothing.
use mathlib.Core.Path.{sym, ◌∙◌}
use Prim.Native.Nat.{◌*◌}
use native.Mathlib.Omega.{arith}
use lib.ListN.{length-take}
use lib.Seq.{length-take-le}
use Rattle.answer.proofs.Laws.{good_job}
use Rattle.closure_answer.specs.Answer.{answer_of}
use Rattle.closure_answer.proofs.answer.Goals as goal

pub returns-then-is_bad : goal.returns-then-is_bad
unfolding answer_of
returns-then-is_bad c = rw (← c.read_head-head.ensures, ← c.is_bad.ensures, c.if-is_bad.true) c.put_refused.ensures

pub slice_bounds-list-end : goal.slice_bounds-list-end
slice_bounds-list-end c = let g = good_job _ _ (sym c.is_bad.ensures ∙ c.if-is_bad.false) in let z = c.zeros-list.ensures.1 in omega arith

pub slice_bounds-closed-end : goal.slice_bounds-closed-end
slice_bounds-closed-end c = let g = good_job _ _ (sym c.is_bad.ensures ∙ c.if-is_bad.false) in let z = c.zeros-list.ensures.1 in sym (length-take-le (4 * c.wide-n.result) c.zeros-list.result (omega arith))

pub slice_bounds-velocities-end : goal.slice_bounds-velocities-end
slice_bounds-velocities-end c = let g = good_job _ _ (sym c.is_bad.ensures ∙ c.if-is_bad.false) in let z = c.zeros-velocities.ensures.1 in omega arith

pub slice_bounds-closed-end-3 : goal.slice_bounds-closed-end-3
slice_bounds-closed-end-3 c = let g = good_job _ _ (sym c.is_bad.ensures ∙ c.if-is_bad.false) in let z = c.zeros-velocities.ensures.1 in sym (length-take-le (3 * c.wide-m.result) c.zeros-velocities.result (omega arith))

pub closed-requires : goal.closed-requires
closed-requires c = let g = good_job _ _ (sym c.is_bad.ensures ∙ c.if-is_bad.false) in let y = c.zeros-list.ensures.1 in let z = c.zeros-velocities.ensures.1 in (c.read_head-head.ensures, omega arith, simp length-take (omega arith), simp length-take (omega arith), c.zeros-back.ensures.0)

pub returns : goal.returns
unfolding answer_of
returns c = rw (← c.read_head-head.ensures, ← c.is_bad.ensures, c.if-is_bad.false, ← c.profile_asked-profile.ensures) c.closed.ensures
