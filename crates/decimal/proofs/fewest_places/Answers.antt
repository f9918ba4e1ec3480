use native.Mathlib.Omega.{arith}
use mathlib.Core.Path.{◌≡◌, refl, sym, ◌∙◌}
use Prim.Native.Nat.{suc, ◌+◌, ◌-◌}
use lib.Ieee.{of_bits, of_int, round, size}
use Rattle.floats.specs.Number.{sign_of}
use Rattle.decimal.specs.Places.{ten_to, digits_of, decimal_of}
use Rattle.decimal.proofs.Tens.{next_ten}
use Rattle.decimal.proofs.Search.{stops, goes_on, ends}
use Rattle.decimal.proofs.fewest_places.Goals as goal

pub loop-k-init : goal.loop-k-init
unfolding ten_to of_int of_bits round size
loop-k-init c = (omega arith, refl, refl)

pub passes-requires : goal.passes-requires
passes-requires c = c.loop-k.invariant.1

pub returns-then-passes : goal.returns-then-passes
unfolding decimal_of digits_of
returns-then-passes c =
    let x = c.args.x in
    let p = c.passes in
    let left : 23 - c.loop-k.k ≡ suc (23 - (c.loop-k.k + 1)) = omega arith in
    let e = c.loop-k.invariant.2 ∙ stops _ _ _ _ (sign_of x) _ left (sym p.ensures ∙ c.if-passes.true) in
    rw (c.negative.ensures, c.whole.ensures.0, ← c.abs-a.ensures, c.loop-k.invariant.1) (sym e)

pub loop-k-preserved : goal.loop-k-preserved
loop-k-preserved c =
    let x = c.args.x in
    let left : 23 - c.loop-k.k ≡ suc (23 - (c.loop-k.k + 1)) = omega arith in (
      omega arith,
      rw c.loop-k.invariant.1 (next_ten c.loop-k.k (omega arith)),
      c.loop-k.invariant.2 ∙ goes_on _ _ _ _ (sign_of x) _ left (sym c.passes.ensures ∙ c.if-passes.false),
    )

pub returns : goal.returns
unfolding decimal_of
returns c =
    let x = c.args.x in
    let left : 23 - c.loop-k.k ≡ 0 = omega arith in
    rw (← c.abs-a.ensures) (sym (c.loop-k.invariant.2 ∙ ends _ _ _ (sign_of x) _ left))
