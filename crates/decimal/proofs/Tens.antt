-- The powers of ten that the search goes through: each is the one before it times ten, rounded
-- once, and up to 22 each is exact. Assumes nothing.
use mathlib.Core.Path.{◌≡◌, refl, sym, subst}
use Prim.Native.Nat.{ℕ, zero, suc, ◌+◌, ◌*◌, ◌^◌, ◌<◌}
use native.Mathlib.Omega.{arith}
use native.Mathlib.Nat.{mul-one}
use mathlib.Core.Bool.{Bool, true, false, not, ◌&&◌}
use lib.Dec.{T, eqb, eqb→eq}
use lib.IntN.{pos}
use lib.Ieee.{Float, nan, inf, fin, binary64, to_bits, of_int, of_bits, mul, round, size, up, down}
use lib.Ieee.Fits.{mul-fits, of_int-fits, and_l, and_r}
use lib.Ieee.Bits.{is_true}
use lib.Ieee.Exact.{HasValue}
use borrow.Author.Tests.{eqb-true, eqb-false}
use Rattle.floats.specs.Binary64.{◌⊗◌, bits}
use Rattle.floats.specs.Number.{same_of}
use Rattle.floats.proofs.Laws.{same_are_equal}
use Rattle.decimal.specs.Places.{ten_to}

-- a test at each number below n
unfoldable pub each : (ℕ → Bool) → ℕ → Bool
each f zero = true
each f (suc n) = f n && each f n

pub there : (f : ℕ → Bool) (n : ℕ) → T (each f n) → (k : ℕ) → k < n → T (f k)
unfolding each
there f zero t k h = absurd (omega arith)
there f (suc n) t k h = by (eqb k n) refl (there f n (and_r (f n) (each f n) t) k)
  where
    by : (b : Bool) → eqb k n ≡ b → (k < n → T (f k)) → T (f k)
    by true e rest = subst (λ (j : ℕ). T (f j)) (sym (eqb-true k n e)) (and_l (f n) (each f n) t)
    by false e rest = rest (omega (arith, eqb-false k n e))

-- ---- each is the one before it times ten

tenfold : ℕ → Bool
tenfold k = same_of (ten_to k ⊗ bits 0x4024_0000_0000_0000) (ten_to (k + 1))

all_tenfold : T (each tenfold 23)
unfolding each tenfold same_of ten_to to_bits of_int of_bits mul round size
all_tenfold = tt

pub next_ten : (k : ℕ) → k < 23 → ten_to k ⊗ bits 0x4024_0000_0000_0000 ≡ ten_to (k + 1)
unfolding tenfold ten_to
next_ten k h =
    same_are_equal (ten_to k ⊗ bits 0x4024_0000_0000_0000) (ten_to (k + 1)) (mul-fits binary64 (ten_to k) (bits 0x4024_0000_0000_0000)) (of_int-fits binary64 (pos (10 ^ (k + 1))))
    (is_true _ (there tenfold 23 all_tenfold k h))

-- ---- each is exact

exactly : Float → ℕ → Bool
exactly nan n = false
exactly (inf s) n = false
exactly (fin s m e) n = not s && eqb (m * up e) (n * down e)

has_value : (x : Float) (n : ℕ) → T (exactly x n) → HasValue x false n 1
unfolding exactly
has_value nan n t = absurd t
has_value (inf s) n t = absurd t
has_value (fin true m e) n t = absurd t
has_value (fin false m e) n t = (refl, rw (mul-one (m * up e)) (eqb→eq (m * up e) (n * down e) t))

all_exact : T (each (λ k. exactly (ten_to k) (10 ^ k)) 23)
unfolding each exactly ten_to of_int round size
all_exact = tt

pub ten_is_exact : (k : ℕ) → k < 23 → HasValue (ten_to k) false (10 ^ k) 1
ten_is_exact k h = has_value (ten_to k) (10 ^ k) (there (λ k. exactly (ten_to k) (10 ^ k)) 23 all_exact k h)
