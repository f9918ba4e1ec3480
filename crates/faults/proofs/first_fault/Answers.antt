use native.Mathlib.Omega.{arith}
use mathlib.Core.Path.{◌≡◌, sym, ◌∙◌}
use Prim.Native.Nat.{suc, ◌+◌, ◌-◌}
use native.Mathlib.Nat.{sub-zero}
use Rattle.sheet.specs.Rules.{end_before}
use Rattle.faults.proofs.Search.{some_is, none_is, fault_here, fault_later, fault_none}
use Rattle.faults.proofs.first_fault.Goals as goal

pub loop-i-init : goal.loop-i-init
unfolding end_before
loop-i-init c = (omega arith, rw (← c.read32.ensures) c.directory_end-end.ensures.0, rw sub-zero)

pub returns-in-Some : goal.returns-in-Some
returns-in-Some c =
    let a = c.args in
    let e = some_is _ _ (sym c.entry_fault.ensures.fault ∙ c.in-Some.is) in
    let left : a.n - c.loop-i.i ≡ suc (a.n - (c.loop-i.i + 1)) = omega arith in (
      rw (c.entry_offset.ensures.0, ← e.0) (sym (c.loop-i.invariant.2 ∙ fault_here _ _ _ _ left e.1)),
      omega (arith, c.in-Some.ensures.within),
    )

pub loop-i-preserved : goal.loop-i-preserved
loop-i-preserved c =
    let a = c.args in
    let left : a.n - c.loop-i.i ≡ suc (a.n - (c.loop-i.i + 1)) = omega arith in
    (omega arith, c.end_at-end.ensures, c.loop-i.invariant.2 ∙ fault_later _ _ _ _ left (none_is _ (sym c.entry_fault.ensures.fault ∙ c.in_default.is)))

pub returns : goal.returns
returns c = (sym (c.loop-i.invariant.2 ∙ fault_none _ _ _ (omega arith)), omega arith)
