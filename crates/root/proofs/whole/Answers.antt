use Rattle.std.proofs.Common.{◌≡◌, ℕ, ◌+◌, ◌-◌, ◌*◌, ◌/◌, ◌≤◌, ap, arith}
use mir.Facts.{Fits-below}
use Rattle.root.proofs.Squares.{sq_mono}
use Rattle.root.proofs.whole.Goals as goal

pub loop-bit-init : goal.loop-bit-init
loop-bit-init c = omega arith

pub overflow_sub-bit : goal.overflow_sub-bit
overflow_sub-bit c = omega arith

pub overflow_add-t : goal.overflow_add-t
overflow_add-t c = omega arith

pub overflow_mul-t : goal.overflow_mul-t
overflow_mul-t c = Fits-below {n = 134217728 * 134217728} tt (sq_mono {y = 134217728} (omega arith))

pub loop-bit-smaller-then-t-a : goal.loop-bit-smaller-then-t-a
loop-bit-smaller-then-t-a c = omega arith

pub loop-bit-preserved-then-t-a : goal.loop-bit-preserved-then-t-a
loop-bit-preserved-then-t-a c =
    let q = c.loop-bit.q in
    let b = c.loop-bit.bit in
    let e : q + b ≡ q + b / 2 + (b - b / 2) = omega arith in
    let f : (q + b) * (q + b) ≡ (q + b / 2 + (b - b / 2)) * (q + b / 2 + (b - b / 2)) = ap (λ (z : ℕ). z * z) e in
    (omega arith, omega arith, omega arith, omega arith)

pub loop-bit-smaller : goal.loop-bit-smaller
loop-bit-smaller c = omega arith

pub loop-bit-preserved : goal.loop-bit-preserved
loop-bit-preserved c =
    let q = c.loop-bit.q in
    let b = c.loop-bit.bit in
    let f : (q + b / 2) * (q + b / 2) ≤ (q + (b - b / 2)) * (q + (b - b / 2)) = sq_mono (omega arith) in
    (omega arith, omega arith, omega arith, omega arith)

pub returns : goal.returns
returns c =
    let q = c.loop-bit.q in
    let b = c.loop-bit.bit in
    let e : b ≡ 1 = omega arith in
    let f : (q + b) * (q + b) ≡ (q + 1) * (q + 1) = ap (λ (z : ℕ). (q + z) * (q + z)) e in
    record { low = omega arith; high = omega arith }
