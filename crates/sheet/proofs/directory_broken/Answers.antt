use native.Mathlib.Omega.{arith}
use mathlib.Core.Path.{◌≡◌, sym, ◌∙◌}
use Prim.Native.Nat.{suc, ◌+◌, ◌-◌}
use native.Mathlib.Nat.{sub-zero}
use mathlib.Core.Bool.{true, false, or-true}
use borrow.Author.Tests.{eq-eqb, ne_eqb, lt-ltb, le-ltb}
use lib.Dec.{ltb}
use lib.ListN.{length}
use Rattle.sheet.specs.Layout.{step_count_of, directory_end}
use Rattle.sheet.specs.Rules.{refusal4, end_before, place_broken, some_from}
use Rattle.sheet.proofs.Order.{some-on, some-off, some_end}
use Rattle.sheet.proofs.directory_broken.Goals as goal

pub returns-then-wide-ne-HEADER : goal.returns-then-wide-ne-HEADER
unfolding refusal4
returns-then-wide-ne-HEADER c = rw (← c.read32.ensures, ← c.wide.ensures.0, ne_eqb _ _ c.if-wide-ne-HEADER.true)

pub returns-then-s-end : goal.returns-then-s-end
unfolding refusal4
returns-then-s-end c =
    rw (
      ← c.read32.ensures,
      ← c.wide.ensures.0,
      eq-eqb _ _ c.if-wide-ne-HEADER.false,
      ← c.read32-2.ensures,
      ← c.directory_end-end.ensures.0,
      lt-ltb _ _ c.if-s-end.true,
    )

pub loop-i-init : goal.loop-i-init
unfolding end_before
loop-i-init c = (omega arith, (rw (← c.read32-2.ensures) c.directory_end-end.ensures.0, rw sub-zero))

pub returns-then-place_broken : goal.returns-then-place_broken
unfolding refusal4
returns-then-place_broken c =
    let a = c.args in
    let left : a.n - c.loop-i.i ≡ suc (a.n - (c.loop-i.i + 1)) = omega arith in
    let at : place_broken a.s.now c.loop-i.i ≡ true = sym c.place_broken.ensures ∙ c.if-place_broken.true in
    let some : some_from (place_broken a.s.now) a.n 0 ≡ true = c.loop-i.invariant.1.1 ∙ some-off _ _ _ _ left at in
    rw (← c.requires) (sym (simp (some, or-true)))

pub loop-i-preserved : goal.loop-i-preserved
loop-i-preserved c =
    let a = c.args in
    let left : a.n - c.loop-i.i ≡ suc (a.n - (c.loop-i.i + 1)) = omega arith in
    let at : place_broken a.s.now c.loop-i.i ≡ false = sym c.place_broken.ensures ∙ c.if-place_broken.false in
    (omega arith, (c.end_at-end.ensures, c.loop-i.invariant.1.1 ∙ some-on _ _ _ _ left at))

pub returns : goal.returns
unfolding refusal4
returns c =
    let s = c.args.s.now in
    let all : c.loop-i.i ≡ c.args.n = omega arith in
    let none : some_from (place_broken s) c.args.n 0 ≡ false = c.loop-i.invariant.1.1 ∙ some_end _ _ _ (omega arith) in
    let inside : ltb (length s) (directory_end (step_count_of s)) ≡ false =
    rw (← c.read32-2.ensures, ← c.directory_end-end.ensures.0) (le-ltb _ _ c.if-s-end.false) in
    rw (
      ← c.read32.ensures,
      ← c.wide.ensures.0,
      eq-eqb _ _ c.if-wide-ne-HEADER.false,
      inside,
      ← c.requires,
      none,
      c.wide-2.ensures.0,
      c.read32-3.ensures,
      c.loop-i.invariant.1.0,
      all,
    )
