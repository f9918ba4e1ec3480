-- Blocks: arrays of 16 numbers, and what it is for their places to hold the values of a function of
-- the place.
use Rattle.std.specs.Prelude.{ℕ, zero, suc, ◌+◌, ◌<◌, ◌≤◌, Bool, true, false, cond, ◌≡◌, List, get_or, length, Float}
use Rattle.std.specs.Float.{nan}

-- the number at a place; NaN past the end
abbrev pub at : List Float → ℕ → Float
at l j = get_or l j nan

-- the whole number at a place; 0 past the end
abbrev pub whole_at : List ℕ → ℕ → ℕ
whole_at l j = get_or l j 0

-- l is a block, and its first n places hold the values of f; d is what is read past the end
pub record Filled {A : Type 0} (d : A) (n : ℕ) (l : List A) (f : ℕ → A) : Type 0 where
  pub block : length l ≡ 16
  pub held : (j : ℕ) → j < n → get_or l j d ≡ f j

-- the same of numbers, and of whole numbers
abbrev pub UpTo : ℕ → List Float → (ℕ → Float) → Type 0
UpTo n l f = Filled nan n l f

abbrev pub WholeUpTo : ℕ → List ℕ → (ℕ → ℕ) → Type 0
WholeUpTo n l f = Filled 0 n l f

-- l is a block of the values of f
abbrev pub Each : List Float → (ℕ → Float) → Type 0
Each l f = UpTo 16 l f

abbrev pub EachWhole : List ℕ → (ℕ → ℕ) → Type 0
EachWhole l f = WholeUpTo 16 l f

-- how many of the first n places have the property
abbrev pub count_to : ℕ → (ℕ → Bool) → ℕ
count_to zero f = 0
count_to (suc n) f = count_to n f + cond (f n) 1 0

-- whether each of the first n places has the property
abbrev pub all_to : ℕ → (ℕ → Bool) → Bool
all_to zero f = true
all_to (suc n) f = cond (f n) (all_to n f) false

-- b tells just that of the first n places of a block
pub record Tells (n : ℕ) (f : ℕ → Bool) (b : Bool) : Type 0 where
  pub all : b ≡ all_to n f
  pub block : n ≤ 16
