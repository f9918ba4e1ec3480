-- A loop that counts the places of a block that have a property: the start, a turn, the end.
-- Assumes nothing.
use Prim.Native.Nat.{ℕ, zero, suc, ◌+◌, ◌<◌, ◌≤◌}
use native.Mathlib.Nat.{le_antisymm}
use native.Mathlib.Numerals.{add-one}
use native.Mathlib.Omega.{arith}
use mathlib.Core.Path.{◌≡◌, refl, ap, ◌∙◌}
use mathlib.Core.Bool.{Bool, true, false, cond}
use Rattle.blocks.specs.Each.{count_to}

-- a place adds at most one
pub at_most_one : (b : Bool) → cond b 1 0 ≤ 1
at_most_one true = omega arith
at_most_one false = omega arith

-- so a count is at most the number of places
pub count_few : (n : ℕ) (f : ℕ → Bool) → count_to n f ≤ n
count_few zero f = omega arith
count_few (suc n) f = omega (arith, count_few n f, at_most_one (f n))

-- properties that agree at each place are counted alike
pub count_told : (n : ℕ) (f g : ℕ → Bool) → ((j : ℕ) → j < n → f j ≡ g j) → count_to n f ≡ count_to n g
count_told zero f g same = refl
count_told (suc n) f g same = rw (count_told n f g (λ j k. same j (omega arith)), same n (omega arith))

-- n of the places of a block before place i have the property
pub record CountedBefore (i : ℕ) (f : ℕ → Bool) (n : ℕ) : Type 0 where
  pub count : n ≡ count_to i f
  pub few : n ≤ i
  pub block : i ≤ 16

pub none_counted : {f : ℕ → Bool} → CountedBefore 0 f 0
none_counted = record { count = refl; few = omega arith; block = omega arith }

-- a turn counts the next place
pub one_counted : {i n v : ℕ} {f : ℕ → Bool} → i < 16 → v ≡ cond (f i) 1 0 → CountedBefore i f n → CountedBefore (i + 1) f (n + v)
one_counted {i} {n} {v} {f} room value before =
    record { count = rw (add-one i, before.count, value); few = omega (arith, at_most_one (f i)); block = omega arith }

-- at the end every place is looked at
pub all_counted : {i n : ℕ} {f : ℕ → Bool} → 16 ≤ i → CountedBefore i f n → n ≡ count_to 16 f
all_counted {i} {n} {f} h u = u.count ∙ ap (λ (m : ℕ). count_to m f) (le_antisymm u.block h)
