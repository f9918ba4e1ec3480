use native.Mathlib.Omega.{arith}
use mathlib.Core.Path.{sym, ap, ◌∙◌}
use native.Mathlib.Nat.{sub-zero}
use Rattle.closure_report.specs.Report.{list_done, added_of}
use Rattle.closure_report.proofs.Turns.{seen-on, seen_end}
use Rattle.closure_report.proofs.add.Goals as goal

pub loop-i-init : goal.loop-i-init
loop-i-init c = rw sub-zero

pub loop-i-preserved : goal.loop-i-preserved
loop-i-preserved c =
    let test = c.loop-i-test.true in
    c.loop-i.invariant ∙ seen-on _ _ _ _ _ _ _ _ (omega arith) (c.seen-r.ensures ∙ rw (c.read4-in-loop-i.ensures, c.read4.ensures))

pub returns : goal.returns
unfolding added_of
returns c = c.list_done.ensures ∙ ap list_done (sym (c.loop-i.invariant ∙ seen_end _ _ _ _ _ _ (omega arith)))
