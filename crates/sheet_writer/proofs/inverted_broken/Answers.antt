use native.Mathlib.Omega.{arith}
use mathlib.Core.Path.{◌≡◌, sym, ◌∙◌}
use Prim.Native.Nat.{suc, ◌+◌, ◌-◌}
use native.Mathlib.Nat.{sub-zero}
use mathlib.Core.Bool.{true, false}
use borrow.Author.Tests.{lt-ltb, le-ltb}
use Rattle.sheet_writer.specs.Rules.{inverted_broken_in}
use Rattle.sheet.proofs.Order.{some-on, some-off, some_end}
use Rattle.sheet_writer.proofs.inverted_broken.Goals as goal

pub loop-i-init : goal.loop-i-init
loop-i-init c = (omega arith, rw sub-zero)

pub returns-then-entry_in-gt1 : goal.returns-then-entry_in-gt1
returns-then-entry_in-gt1 c = let a = c.args in
    let left : a.n - c.loop-i.i ≡ suc (a.n - (c.loop-i.i + 1)) = omega arith in
    let at : inverted_broken_in a.sheet c.loop-i.i ≡ true = rw (← c.entry_in.ensures) (lt-ltb _ _ c.if-entry_in-gt1.true) in
    sym (c.loop-i.invariant.1 ∙ some-off _ _ _ _ left at)

pub loop-i-preserved : goal.loop-i-preserved
loop-i-preserved c = let a = c.args in
    let left : a.n - c.loop-i.i ≡ suc (a.n - (c.loop-i.i + 1)) = omega arith in
    let at : inverted_broken_in a.sheet c.loop-i.i ≡ false = rw (← c.entry_in.ensures) (le-ltb _ _ c.if-entry_in-gt1.false) in
    (omega arith, c.loop-i.invariant.1 ∙ some-on _ _ _ _ left at)

pub returns : goal.returns
returns c = sym (c.loop-i.invariant.1 ∙ some_end _ _ _ (omega arith))
