-- What the writer refuses is handed on; else the length is read from the room it left. Assumes
-- nothing.
use mathlib.Core.Path.{sym, ◌∙◌}
use Rattle.sheet.proofs.Unless.{accepts, refuses, passed, failed, hands_on}
use Rattle.making.proofs.written.Goals as goal

pub returns-in_err-write : goal.returns-in_err-write
returns-in_err-write c =
    let o = c.write.ensures.0 in
    let err = c.in_err-write.was in
    (hands_on _ _ o err c.from_residual.ensures.1 ∙ sym (refuses _ _ (failed _ _ o err)), c.write.ensures.1)

pub returns : goal.returns
returns c =
    let w = c.write.ensures in
    (rw (c.wide.ensures.0, c.read32.ensures, w.1) (sym (accepts _ _ (passed _ _ w.0 c.in_ok-write.was))), w.1)
