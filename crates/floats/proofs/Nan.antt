-- What tells a NaN: it differs from itself, and its bits, the sign aside, lie above an infinity's.
-- Assumes nothing.
use mathlib.Core.Path.{◌≡◌, refl, sym, ◌∙◌, subst}
use Prim.Native.Nat.{ℕ, ◌*◌, ◌%◌, ◌≤◌, ◌<◌}
use mathlib.Core.Bool.{Bool, true, false, not}
use lib.Dec.{T}
use lib.Ieee.{Float, nan, inf, fin, binary64, of_bits, nan_bits, is_nan, ne, eq, up, down, div}
use lib.Ieee.Bits.{nan_bits_is, nan_bits_above}
use lib.Ieee.Compare.{differs_from_itself}
use borrow.Author.Tests.{le-ltb, lt-ltb, eq-eqb}
use Rattle.floats.specs.Binary64.{bits, ◌⊘◌}

pub differs_exactly_if_nan : (x : Float) → ne x x ≡ is_nan x
unfolding ne eq is_nan
differs_exactly_if_nan nan = refl
differs_exactly_if_nan (inf true) = refl
differs_exactly_if_nan (inf false) = refl
differs_exactly_if_nan (fin true m e) = rw (eq-eqb (m * up e * down e) (m * up e * down e) refl)
differs_exactly_if_nan (fin false m e) = rw (eq-eqb (m * up e * down e) (m * up e * down e) refl)

pub nan_if_differs : (x : Float) → ne x x ≡ true → x ≡ nan
nan_if_differs x h = differs_from_itself x (subst T (sym h) tt)

pub no_nan_if_equal : (x : Float) → ne x x ≡ false → T (not (is_nan x))
no_nan_if_equal x h = subst (λ (b : Bool). T (not b)) (sym h ∙ differs_exactly_if_nan x) tt

-- the bits, by their test
pub no_nan_bits : (b : ℕ) → b % 0x8000_0000_0000_0000 ≤ 0x7ff0_0000_0000_0000 → T (not (nan_bits binary64 b))
no_nan_bits b h =
    subst (λ (t : Bool). T (not t)) (sym (nan_bits_above binary64 b ∙ le-ltb 0x7ff0_0000_0000_0000 (b % 0x8000_0000_0000_0000) h)) tt

is_the_nan : (x : Float) → is_nan x ≡ true → x ≡ nan
unfolding is_nan
is_the_nan nan h = refl
is_the_nan (inf s) h = absurd (subst T (sym h) tt)
is_the_nan (fin s m e) h = absurd (subst T (sym h) tt)

pub nan-bits : (b : ℕ) → 0x7ff0_0000_0000_0000 < b % 0x8000_0000_0000_0000 → of_bits binary64 b ≡ nan
nan-bits b h =
    is_the_nan (of_bits binary64 b)
    (sym (nan_bits_is binary64 b) ∙ nan_bits_above binary64 b ∙ lt-ltb 0x7ff0_0000_0000_0000 (b % 0x8000_0000_0000_0000) h)

pub zero_over_zero : bits 0 ⊘ bits 0 ≡ nan
unfolding div of_bits
zero_over_zero = refl
