-- Counts that 32 bits hold go out as they are.
use Prim.Native.Nat.{ℕ, zero, suc, ◌%◌, ◌<◌}
use native.Mathlib.Omega.{arith}
use mathlib.Core.Path.{◌≡◌, refl, ap}
use mathlib.Core.List.{List, [], ◌∷◌}
use lib.ListN.{length, get_or}
use Rattle.codes.specs.Codes.{narrow_of, Small}

pub narrow_small : (counts : List ℕ) → Small counts → narrow_of counts ≡ counts
unfolding narrow_of
narrow_small [] small = refl
narrow_small (n ∷ counts) small = let here : n % 4294967296 ≡ n = let h = small 0 in omega arith in rw (here, narrow_small counts (λ (i : ℕ). small (suc i))) refl

-- as many as there were, and each in its place
pub narrow_length : (counts : List ℕ) → length (narrow_of counts) ≡ length counts
unfolding narrow_of
narrow_length [] = refl
narrow_length (n ∷ counts) = ap suc (narrow_length counts)

pub narrow_at : (counts : List ℕ) (i : ℕ) → i < length counts → get_or (narrow_of counts) i 0 ≡ get_or counts i 0 % 4294967296
unfolding narrow_of
narrow_at [] i inside = elim inside [ ]
narrow_at (n ∷ counts) zero inside = refl
narrow_at (n ∷ counts) (suc i) inside = narrow_at counts i (omega arith)
