use native.Mathlib.Omega.{arith}
use mathlib.Core.Path.{◌≡◌, refl, sym, ◌∙◌}
use Prim.Native.Nat.{suc, ◌+◌, ◌-◌}
use native.Mathlib.Nat.{sub-zero}
use mathlib.Core.Bool.{true, false}
use Rattle.sheet.specs.Rules.{refusal11, has_deformation, of_step, accepted, unless}
use Rattle.sheet.specs.Layout.{kind_in}
use Rattle.sheet.proofs.Order.{elevens-on, elevens-off, elevens-end, before-next, of_index_lem}
use Rattle.sheet.proofs.Unless.{accepts}
use Rattle.sheet_writer.proofs.check_steps.Goals as goal

pub loop-i-init : goal.loop-i-init
unfolding has_deformation
loop-i-init c = (omega arith, (refl, rw sub-zero))

pub returns-then-deformation-before : goal.returns-then-deformation-before
unfolding refusal11 unless
returns-then-deformation-before c = let a = c.args in
    let left : a.n - c.loop-i.i ≡ suc (a.n - (c.loop-i.i + 1)) = omega arith in
    let second : refusal11 (kind_in a.sheet) c.loop-i.i ≡ true = rw (← c.kind_in-deformation.ensures, ← c.loop-i.invariant.1.0) c.if-deformation-before.true in
    let step : c.of_step.result ≡ of_step 11 c.loop-i.i = c.of_step.ensures ∙ of_index_lem _ _ (omega arith) in
    rw (step, c.loop-i.invariant.1.1 ∙ elevens-off _ _ _ _ left second)

pub loop-i-preserved : goal.loop-i-preserved
unfolding refusal11
loop-i-preserved c = let a = c.args in
    let left : a.n - c.loop-i.i ≡ suc (a.n - (c.loop-i.i + 1)) = omega arith in
    let alone : refusal11 (kind_in a.sheet) c.loop-i.i ≡ false = rw (← c.kind_in-deformation.ensures, ← c.loop-i.invariant.1.0) c.if-deformation-before.false in
    (omega arith, (rw (before-next, ← c.kind_in-deformation.ensures, ← c.loop-i.invariant.1.0), c.loop-i.invariant.1.1 ∙ elevens-on _ _ _ _ left alone))

pub returns : goal.returns
returns c = rw (c.loop-i.invariant.1.1 ∙ elevens-end _ _ _ (omega arith)) (sym (accepts accepted tt refl))
