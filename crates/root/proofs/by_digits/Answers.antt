use Rattle.std.proofs.Common.{◌≡◌, ℕ, ◌+◌, ◌*◌, ◌^◌, ◌<◌, ◌≤◌, ap, le_trans, arith, pow_mono}
use mir.Facts.{Fits-below}
use Rattle.root.proofs.Squares.{sq_one, sq_double', sq-lt, pow_one, pow_step, nearest_root_lem}
use Rattle.root.proofs.by_digits.Goals as goal
use Rattle.root.proofs.by_digits.Goals.{then-q-r, else-q-r}

pos_of : (q : ℕ) → 1 < (q + 1) * (q + 1) → 1 ≤ q
pos_of q h = let k : 1 < q + 1 = sq-lt 1 (q + 1) h in omega arith

small : (i : ℕ) → i < 26 → 2 ^ i ≤ 33554432
small i h = pow_mono {i = i} {j = 25} (omega arith)

pub whole-q-requires : goal.whole-q-requires
whole-q-requires c = omega arith

pub overflow_mul-r : goal.overflow_mul-r
overflow_mul-r c = Fits-below {n = 18014398509481984} tt (le_trans c.whole-q.ensures.low (omega arith))

pub overflow_sub-r : goal.overflow_sub-r
overflow_sub-r c = c.whole-q.ensures.low

pub loop-init : goal.loop-init
loop-init c =
    let q = c.whole-q.result in
    let l : q * q ≤ c.args.a = c.whole-q.ensures.low in
    let h : c.args.a < (q + 1) * (q + 1) = c.whole-q.ensures.high in
    let e = sq_one q in
    let small : q < 134217728 = sq-lt q 134217728 (omega arith) in
    let one : 1 ≤ q = pos_of q (omega arith) in
    (omega arith, omega arith, small, one)

pub overflow_mul-r-in-loop : goal.overflow_mul-r-in-loop
overflow_mul-r-in-loop c = omega (arith, small c.loop.counter c.loop-test.true)

pub overflow_mul-q : goal.overflow_mul-q
overflow_mul-q c = omega (arith, small c.loop.counter c.loop-test.true)

pub overflow_mul-q-in-loop : goal.overflow_mul-q-in-loop
overflow_mul-q-in-loop c = omega (arith, small c.loop.counter c.loop-test.true)

pub overflow_mul-r-then-q-r : goal.overflow_mul-r-then-q-r
overflow_mul-r-then-q-r c = omega (arith, small c.loop.counter c.loop-test.true)

pub overflow_sub-r-then-q-r : goal.overflow_sub-r-then-q-r
overflow_sub-r-then-q-r c = omega arith

pub overflow_sub-r-then-q-r-2 : goal.overflow_sub-r-then-q-r-2
overflow_sub-r-then-q-r-2 c = omega arith

pub overflow_add-q : goal.overflow_add-q
overflow_add-q c = omega (arith, small c.loop.counter c.loop-test.true)

pub loop-preserved : goal.loop-preserved
loop-preserved c =
    let a = c.args.a in
    let q = c.loop.q in
    let i = c.loop.counter in
    let e = pow_step a i in
    let p = pow_one i in
    let d = sq_double' q in
    let o = sq_one (q * 2) in
    elim c.if-q-r.branch [
      | then-q-r w ↦ rw (w.q-is, w.r-is) (omega arith, omega arith, omega arith, omega arith)
      | else-q-r w ↦ rw (w.q-is, w.r-is) (omega arith, omega arith, omega arith, omega arith)
    ]

pub overflow_add-result : goal.overflow_add-result
overflow_add-result c = omega (arith, pow_mono c.loop.auto.counter-end)

pub returns-then-q-r-2 : goal.returns-then-q-r-2
returns-then-q-r-2 c =
    let a = c.args.a in
    let q = c.loop.q in
    let i = c.loop.counter in
    let e : i ≡ 26 = omega arith in
    let f : a * (2 ^ i * 2 ^ i) ≡ a * (2 ^ 26 * 2 ^ 26) = ap (λ (z : ℕ). a * (2 ^ z * 2 ^ z)) e in
    let o = sq_one q in
    nearest_root_lem (a * 2 ^ 52) (q + 1) (omega arith) (omega arith) (omega arith)

pub returns-else-q-r-2 : goal.returns-else-q-r-2
returns-else-q-r-2 c =
    let a = c.args.a in
    let q = c.loop.q in
    let i = c.loop.counter in
    let e : i ≡ 26 = omega arith in
    let f : a * (2 ^ i * 2 ^ i) ≡ a * (2 ^ 26 * 2 ^ 26) = ap (λ (z : ℕ). a * (2 ^ z * 2 ^ z)) e in
    let o = sq_one q in
    nearest_root_lem (a * 2 ^ 52) q (omega arith) (omega arith) (omega arith)
