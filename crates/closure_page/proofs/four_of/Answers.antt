use native.Mathlib.Omega.{arith}
use mathlib.Core.Path.{◌≡◌, refl, sym, ◌∙◌}
use Prim.Native.Nat.{suc, ◌+◌, ◌-◌}
use lib.Ieee.{of_bits, of_int, round, size}
use Rattle.decimal.specs.Places.{ten_to}
use Rattle.decimal.proofs.Tens.{next_ten}
use Rattle.closure_page.proofs.Figures.{places-found, places-on, places-end}
use Rattle.closure_page.proofs.four_of.Goals as goal

pub loop-k-init : goal.loop-k-init
unfolding ten_to of_int of_bits round size
loop-k-init c = (omega arith, refl, refl)

pub returns-then-digits-ge1000 : goal.returns-then-digits-ge1000
returns-then-digits-ge1000 c = let w = c.whole-digits.ensures.0 in
    let left : 22 - c.loop-k.k ≡ suc (22 - (c.loop-k.k + 1)) = omega arith in
    let found = c.loop-k.invariant.2 ∙ places-found _ _ _ _ left (rw (← c.loop-k.invariant.1, ← w) c.if-digits-ge1000.true) in
    (sym found, w ∙ rw (found, ← c.loop-k.invariant.1), omega arith)

pub loop-k-preserved : goal.loop-k-preserved
loop-k-preserved c = let w = c.whole-digits.ensures.0 in
    let left : 22 - c.loop-k.k ≡ suc (22 - (c.loop-k.k + 1)) = omega arith in
    (omega arith, rw c.loop-k.invariant.1 (next_ten c.loop-k.k (omega arith)), c.loop-k.invariant.2 ∙ places-on _ _ _ _ left (rw (← c.loop-k.invariant.1, ← w) c.if-digits-ge1000.false))

pub returns : goal.returns
returns c = let left : 22 - c.loop-k.k ≡ 0 = omega arith in
    let found = c.loop-k.invariant.2 ∙ places-end _ _ _ left in
    let last : c.loop-k.k ≡ 22 = omega arith in
    (sym (found ∙ last), c.whole.ensures.0 ∙ rw (found, ← c.loop-k.invariant.1), omega arith)
