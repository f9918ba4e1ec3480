use native.Mathlib.Omega.{arith}
use mathlib.Core.Path.{◌≡◌, sym, ◌∙◌}
use Prim.Native.Nat.{suc, ◌+◌, ◌*◌, ◌-◌}
use native.Mathlib.Nat.{sub-zero}
use mathlib.Core.Bool.{true, false, or-true}
use borrow.Author.Tests.{lt-ltb, le-ltb, ltb-false}
use lib.Dec.{eqb, ltb}
use lib.ListN.{length}
use Rattle.sheet.specs.Rules.{some_from}
use Rattle.sheet.proofs.Order.{neither, some-on, some-off, some_end}
use Rattle.rescue.specs.Rebuilt.{count_word, start_of}
use Rattle.rescue.specs.Rules.{entry_broken, refusal19}
use Rattle.rescue.proofs.Rebuildable.{start-next}
use Rattle.rescue.proofs.is_lost.Goals as goal

pub returns-then-s-lt16 : goal.returns-then-s-lt16
unfolding refusal19
returns-then-s-lt16 c = rw (lt-ltb _ _ c.if-s-lt16.true)

pub returns-then-n : goal.returns-then-n
unfolding refusal19
returns-then-n c =
    let count = c.wide-n.ensures.0 ∙ c.read32.ensures in
    simp (← count, c.if-n.true, or-true)

pub returns-then-s-end : goal.returns-then-s-end
unfolding refusal19
returns-then-s-end c =
    let count = c.wide-n.ensures.0 ∙ c.read32.ensures in
    simp (← count, lt-ltb _ _ c.if-s-end.true, or-true)

pub loop-i-init : goal.loop-i-init
unfolding start_of
loop-i-init c =
    let count = c.wide-n.ensures.0 ∙ c.read32.ensures in
    (omega arith, (ltb-false 16 c.wide-n.result (neither (eqb c.wide-n.result 0) (ltb 16 c.wide-n.result) c.if-n.false).1, (omega arith, (rw count, rw sub-zero))))

pub returns-then-entry_broken : goal.returns-then-entry_broken
unfolding refusal19
returns-then-entry_broken c =
    let s = c.args.s.now in
    let n = c.wide-n.result in
    let count : n ≡ count_word s = c.wide-n.ensures.0 ∙ c.read32.ensures in
    let left : n - c.loop-i.i ≡ suc (n - (c.loop-i.i + 1)) = omega arith in
    let at : entry_broken s c.loop-i.i ≡ true = sym c.entry_broken.ensures ∙ c.if-entry_broken.true in
    let some : some_from (entry_broken s) n 0 ≡ true = c.loop-i.invariant.1.1.1.1 ∙ some-off _ _ _ _ left at in
    rw (← count) (sym (simp (some, or-true)))

pub loop-i-preserved : goal.loop-i-preserved
loop-i-preserved c =
    let s = c.args.s.now in
    let n = c.wide-n.result in
    let left : n - c.loop-i.i ≡ suc (n - (c.loop-i.i + 1)) = omega arith in
    let at : entry_broken s c.loop-i.i ≡ false = sym c.entry_broken.ensures ∙ c.if-entry_broken.false in
    (omega arith, (omega arith, (omega arith, (omega (arith, start-next s c.loop-i.i, c.body_length-end.ensures.0), c.loop-i.invariant.1.1.1.1 ∙ some-on _ _ _ _ left at))))

pub returns : goal.returns
unfolding refusal19
returns c =
    let s = c.args.s.now in
    let n = c.wide-n.result in
    let count : n ≡ count_word s = c.wide-n.ensures.0 ∙ c.read32.ensures in
    let all : c.loop-i.i ≡ n = omega arith in
    let none : some_from (entry_broken s) n 0 ≡ false = c.loop-i.invariant.1.1.1.1 ∙ some_end _ _ _ (omega arith) in
    let long : ltb (length s) 16 ≡ false = le-ltb _ _ c.if-s-lt16.false in
    let in_rule = c.if-n.false in
    let inside : ltb (length s) (16 + 16 * n) ≡ false = le-ltb _ _ c.if-s-end.false in
    rw (← count, long, in_rule, inside, none, ← all, c.loop-i.invariant.1.1.1.0)
