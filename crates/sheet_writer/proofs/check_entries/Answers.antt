use native.Mathlib.Omega.{arith}
use mathlib.Core.Path.{◌≡◌, refl, sym, ◌∙◌}
use Prim.Native.Nat.{suc, ◌+◌, ◌-◌}
use native.Mathlib.Nat.{sub-zero}
use Rattle.sheet.specs.Rules.{accepted}
use Rattle.sheet.proofs.Order.{steps_on, steps-off, steps-end}
use Rattle.sheet.proofs.Unless.{accepts, refuses, passed, failed, hands_on}
use Rattle.sheet_writer.proofs.check_entries.Goals as goal

pub loop-i-init : goal.loop-i-init
loop-i-init c = (omega arith, rw sub-zero)

pub returns-in_err-check_entry : goal.returns-in_err-check_entry
returns-in_err-check_entry c = let a = c.args in
    let o = c.check_entry.ensures in
    let err = c.in_err-check_entry.was in
    let left : a.n - c.loop-i.i ≡ suc (a.n - (c.loop-i.i + 1)) = omega arith in
    let same = c.loop-i.invariant.1 ∙ steps-off _ _ _ _ _ _ left refl (failed _ _ o err) in
    rw same (hands_on _ _ o err c.from_residual.ensures.1 ∙ sym (refuses _ tt (failed _ _ o err)))

pub loop-i-preserved : goal.loop-i-preserved
loop-i-preserved c = let a = c.args in
    let ok = passed _ _ c.check_entry.ensures c.in_ok-check_entry.was in
    let left : a.n - c.loop-i.i ≡ suc (a.n - (c.loop-i.i + 1)) = omega arith in
    (omega arith, c.loop-i.invariant.1 ∙ steps_on _ _ _ _ _ _ left refl ok)

pub returns : goal.returns
returns c = rw (c.loop-i.invariant.1 ∙ steps-end _ _ _ _ (omega arith)) (sym (accepts accepted tt refl))
