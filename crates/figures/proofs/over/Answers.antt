use native.Mathlib.Omega.{arith}
use mathlib.Core.Path.{◌≡◌, sym, ap}
use Prim.Native.Nat.{ℕ, ◌/◌}
use native.Mathlib.Numerals.{add-one}
use native.Mathlib.Nat.{pow-zero, pow-suc, div-div-eq-div-mul, div-one}
use Rattle.figures.proofs.over.Goals as goal

pub loop-init : goal.loop-init
loop-init c = (omega arith, rw (pow-zero 10) (sym (div-one c.args.n)))

pub loop-preserved : goal.loop-preserved
loop-preserved c =
    (omega arith, rw (add-one c.loop.counter, pow-suc 10 c.loop.counter, ← div-div-eq-div-mul) (ap (λ (m : ℕ). m / 10) c.loop.invariant.1))

pub returns : goal.returns
returns c =
    let e : c.loop.counter ≡ c.args.k = omega arith in
    rw (← e) c.loop.invariant.1
