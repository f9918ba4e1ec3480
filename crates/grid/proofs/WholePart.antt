-- The whole part of a number outside -1 to 2^64, as the code has it. Assumes nothing.
use Rattle.std.proofs.Common.{◌≡◌, ◌+◌, ◌-◌, ◌*◌, ◌/◌, ◌^◌, ◌≤◌, true, false, sym, refl, ◌∙◌, true≢false, le-div_iff_mul-le, arith, ltb-false, lt-ltb}
use native.Mathlib.Nat.{min-eq_right}
use lib.Ieee.{Float, nan, inf, fin, of_bits, neg, lt, to_unsigned, up, down}
use lib.Ieee.Fits.{down_pos}
use Rattle.floats.specs.Binary64.{bits}

abbrev minus_one : Float
minus_one = neg (bits 0x3ff0_0000_0000_0000)

abbrev beyond : Float
beyond = bits 0x43f0_0000_0000_0000

-- the largest whole number of 64 bits from 2^64 on
pub whole-beyond : (x : Float) → lt minus_one x ≡ true → lt x beyond ≡ false → 18446744073709551615 ≡ to_unsigned 64 x
unfolding lt to_unsigned of_bits neg
whole-beyond nan h k = absurd (true≢false (sym h))
whole-beyond (inf true) h k = absurd (true≢false (sym h))
whole-beyond (inf false) h k = refl
whole-beyond (fin true m e) h k = absurd (true≢false (sym some ∙ k))
  where
    some : lt (fin true m e) beyond ≡ true
    some = lt-ltb 0 (m * up e * 1 + 1 * 2 ^ 64 * down e) (let p = down_pos e in omega arith)
whole-beyond (fin false m e) h k = sym (min-eq_right (past (ltb-false (m * up e * 1) (1 * 2 ^ 64 * down e) k)))
  where
    past : 1 * 2 ^ 64 * down e ≤ m * up e * 1 → 2 ^ 64 - 1 ≤ m * up e / down e
    past g = (le-div_iff_mul-le (down_pos e)).1 (let p = down_pos e in omega arith)

-- 0 up to -1
pub none_below : (x : Float) → lt minus_one x ≡ false → 0 ≡ to_unsigned 64 x
unfolding lt to_unsigned of_bits neg
none_below nan h = refl
none_below (inf true) h = refl
none_below (inf false) h = absurd (true≢false h)
none_below (fin true m e) h = refl
none_below (fin false m e) h = absurd (true≢false (sym some ∙ h))
  where
    some : lt minus_one (fin false m e) ≡ true
    some = lt-ltb 0 (1 * 1 * down e + m * up e * 1) (let p = down_pos e in omega arith)
