use native.Mathlib.Omega.{arith}
use mathlib.Core.Path.{◌≡◌, refl, sym, ◌∙◌}
use mathlib.Core.Bool.{true, false}
use Prim.Native.Nat.{suc, ◌+◌, ◌-◌}
use native.Mathlib.Nat.{sub-zero}
use Rattle.sheet.specs.Layout.{step_at}
use Rattle.sheet.specs.Rules.{of_step, accepted, unless}
use Rattle.sheet.proofs.Order.{of_index_lem}
use Rattle.sheet.proofs.Unless.{accepts}
use Rattle.profile.specs.Profile.{refusal25}
use Rattle.profile.proofs.Judging.{offence-on, offence-off, offence-end}
use Rattle.profile.proofs.first_offence.Goals as goal

pub loop-i-init : goal.loop-i-init
loop-i-init c = (omega arith, rw sub-zero)

pub returns-then-offends : goal.returns-then-offends
unfolding unless
returns-then-offends c = let test = c.loop-i-test.true in
    let a = c.args in
    let left : a.n - c.loop-i.i ≡ suc (a.n - (c.loop-i.i + 1)) = omega arith in
    let broken : refusal25 (step_at a.s.now c.loop-i.i) ≡ true =
    rw (← c.kind_at.ensures, ← c.body_at.ensures, ← c.read_body-step.ensures, ← c.offends.ensures) c.if-offends.true in
    let named : c.of_step.result ≡ of_step 25 c.loop-i.i = c.of_step.ensures ∙ of_index_lem _ _ (omega arith) in
    rw (named, c.loop-i.invariant.1 ∙ offence-off _ _ _ _ left broken)

pub loop-i-preserved : goal.loop-i-preserved
loop-i-preserved c = let test = c.loop-i-test.true in
    let a = c.args in
    let left : a.n - c.loop-i.i ≡ suc (a.n - (c.loop-i.i + 1)) = omega arith in
    let kept : refusal25 (step_at a.s.now c.loop-i.i) ≡ false =
    rw (← c.kind_at.ensures, ← c.body_at.ensures, ← c.read_body-step.ensures, ← c.offends.ensures) c.if-offends.false in
    (omega arith, c.loop-i.invariant.1 ∙ offence-on _ _ _ _ left kept)

pub returns : goal.returns
returns c = rw (c.loop-i.invariant.1 ∙ offence-end _ _ _ (omega arith)) (sym (accepts accepted tt refl))
