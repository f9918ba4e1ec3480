-- A loop that asks whether all places of a block have a property: the start, a turn, the end, and
-- what the answer says of each. Assumes nothing.
use Prim.Native.Nat.{ℕ, zero, suc, ◌+◌, ◌<◌, ◌≤◌}
use native.Mathlib.Nat.{not-suc-le-zero, le_of_suc-le-suc, eq-or-lt_of_le, le_antisymm}
use native.Mathlib.Numerals.{add-one}
use native.Mathlib.Omega.{arith}
use mathlib.Core.Path.{◌≡◌, refl, sym, ap, ◌∙◌}
use mathlib.Core.Logic.{◌⊎◌, inl, inr}
use mathlib.Core.Bool.{Bool, true, false, cond, ◌&&◌, true≢false}
use Rattle.blocks.specs.Each.{all_to, Tells}

pub none_asked : {f : ℕ → Bool} → Tells 0 f true
none_asked = record { all = refl; block = omega arith }

-- what a turn makes of the answer, where it asks by `&`
pub asked : (b one : Bool) → (b && one) ≡ cond one b false
asked true true = refl
asked true false = refl
asked false true = refl
asked false false = refl

-- a turn asks the next place
pub one_asked : {i : ℕ} {b one v : Bool} {f : ℕ → Bool} → i < 16 → v ≡ cond one b false → one ≡ f i → Tells i f b → Tells (i + 1) f v
one_asked {i} {b} {one} {v} {f} room value here before =
    record { all = rw (add-one i, value, here, before.all); block = omega arith }

-- at the end every place is
pub all_asked : {i : ℕ} {b : Bool} {f : ℕ → Bool} → 16 ≤ i → Tells i f b → Tells 16 f b
all_asked {i} {b} {f} h u = record { all = u.all ∙ ap (λ (m : ℕ). all_to m f) (le_antisymm u.block h); block = omega arith }

-- what all have each has
each_to : (n : ℕ) (f : ℕ → Bool) → all_to n f ≡ true → (j : ℕ) → j < n → f j ≡ true
each_to zero f h j k = absurd (not-suc-le-zero k)
each_to (suc n) f h j k = go (f n) refl h (λ g l. each_to n f g j l)
  where
    last-or-before : f n ≡ true → (j < n → f j ≡ true) → (j ≡ n) ⊎ (j < n) → f j ≡ true
    last-or-before here before (inl e) = ap f e ∙ here
    last-or-before here before (inr l) = before l

    go : (b : Bool) → f n ≡ b → cond b (all_to n f) false ≡ true → (all_to n f ≡ true → j < n → f j ≡ true) → f j ≡ true
    go true e g before = last-or-before e (before g) (eq-or-lt_of_le (le_of_suc-le-suc k))
    go false e g before = absurd (true≢false (sym g))

pub each_of_all : {n : ℕ} {f : ℕ → Bool} {b : Bool} → Tells n f b → b ≡ true → (j : ℕ) → j < n → f j ≡ true
each_of_all {n} {f} u h = each_to n f (sym u.all ∙ h)
