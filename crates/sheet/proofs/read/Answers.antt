-- What `check` refuses is handed on; of a sheet that it accepts the step count is in rule
-- (`accepted_count`), and the record is read. Assumes nothing.
use mathlib.Core.Path.{sym, ◌∙◌}
use Rattle.sheet.proofs.Order.{accepted_count}
use Rattle.sheet.proofs.Unless.{accepts, refuses, passed, failed, hands_on}
use Rattle.sheet.proofs.read.Goals as goal

pub record-requires : goal.record-requires
record-requires c = let s = c.args.s.now in
    let k = accepted_count s (passed _ _ c.check.ensures c.in_ok-check.was) in
    (rw c.step_count.ensures.0 k, c.step_count.ensures.0)

pub returns-in_err-check : goal.returns-in_err-check
returns-in_err-check c =
    let o = c.check.ensures in
    let err = c.in_err-check.was in
    hands_on _ _ o err c.from_residual.ensures.1 ∙ sym (refuses _ _ (failed _ _ o err))

pub returns : goal.returns
returns c = rw c.record.ensures (sym (accepts _ _ (passed _ _ c.check.ensures c.in_ok-check.was)))
