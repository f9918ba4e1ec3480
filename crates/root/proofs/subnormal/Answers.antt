use Rattle.std.proofs.Common.{ℕ, ◌+◌, ◌-◌, ◌*◌, ◌/◌, ◌%◌, ◌<◌, ◌≤◌, refl, ◌∙◌, le_trans, le_of_eq, mul-le-mul, arith}
use mir.Facts.{Fits-below}
use Rattle.root.proofs.Patterns.{subnormal_value}
use Rattle.root.proofs.Squares.{halve, double_pow, few, split}
use Rattle.root.proofs.subnormal.Goals as goal

at_most_lem : (m p : ℕ) → m < 9007199254740992 → m * (p % 2 + 1) ≤ 18014398509481982
at_most_lem m p h = mul-le-mul {n₂ = 9007199254740991} {m₂ = 2} (omega arith) (omega arith)

at_least : (m p : ℕ) → 4503599627370496 ≤ m → 4503599627370496 ≤ m * (p % 2 + 1)
at_least m p h = mul-le-mul {n₁ = 4503599627370496} {m₁ = 1} h (omega arith)

pub loop-m-init : goal.loop-m-init
loop-m-init c = (refl, omega arith, omega arith, omega arith)

pub overflow_mul-m : goal.overflow_mul-m
overflow_mul-m c = omega arith

pub overflow_sub-p : goal.overflow_sub-p
overflow_sub-p c = omega (arith, few (1074 - c.loop-m.p) c.loop-m.m 52 c.loop-m.invariant.3 c.loop-m-test.true)

pub loop-m-smaller : goal.loop-m-smaller
loop-m-smaller c = omega (arith, few (1074 - c.loop-m.p) c.loop-m.m 52 c.loop-m.invariant.3 c.loop-m-test.true)

pub loop-m-preserved : goal.loop-m-preserved
loop-m-preserved c =
    let m = c.loop-m.m in
    let p = c.loop-m.p in
    let w = few (1074 - p) m 52 c.loop-m.invariant.3 c.loop-m-test.true in
    let one : 1 ≤ p = omega arith in
    (halve m p one ∙ c.loop-m.invariant.0, omega arith, omega arith, le_trans (le_of_eq (double_pow p one c.loop-m.invariant.2)) (omega arith))

pub overflow_add-a : goal.overflow_add-a
overflow_add-a c = omega arith

pub overflow_mul-a : goal.overflow_mul-a
overflow_mul-a c = Fits-below {n = 18014398509481982} tt (at_most_lem c.loop-m.m c.loop-m.p c.loop-m.invariant.1)

pub overflow_sub-k : goal.overflow_sub-k
overflow_sub-k c = omega (arith, few (1074 - c.loop-m.p) c.loop-m.m 53 c.loop-m.invariant.3 c.loop-m.invariant.1)

pub returns : goal.returns
returns c =
    let b = c.args.b in
    let m = c.loop-m.m in
    let p = c.loop-m.p in
    let w = few (1074 - p) m 53 c.loop-m.invariant.3 c.loop-m.invariant.1 in
    let most = at_most_lem m p c.loop-m.invariant.1 in
    record {
      n = b;
      value = subnormal_value b (omega arith);
      same = split m p (m * (p % 2 + 1)) ((p - 52) / 2) (omega arith) refl refl ∙ c.loop-m.invariant.0;
      low = at_least m p (omega arith);
      high = omega arith;
      most = omega arith;
    }
