-- A loop that writes each place of a block over the number that it reads there: the start, a turn,
-- the end. Assumes nothing.
use Prim.Native.Nat.{ℕ, ◌+◌, ◌<◌, ◌≤◌}
use native.Mathlib.Nat.{le_refl}
use native.Mathlib.Omega.{arith}
use mathlib.Core.Path.{◌≡◌, refl, ◌∙◌}
use mathlib.Core.List.{List}
use lib.ListN.{set, length}
use lib.Seq.{get_or-set_other}
use lib.Ieee.{Float, nan}
use Rattle.blocks.specs.Each.{at, UpTo, Each}
use Rattle.blocks.proofs.Laws.{none_filled, one_more, all_filled}

-- the first i places hold the values of f, the others what was there before
pub record Over (i : ℕ) (before l : List Float) (f : ℕ → Float) : Type 0 where
  pub filled : UpTo i l f
  pub rest : (j : ℕ) → i ≤ j → at l j ≡ at before j

pub none_over : {l : List Float} {f : ℕ → Float} → length l ≡ 16 → Over 0 l l f
none_over b = record { filled = none_filled b; rest = λ j k. refl }

-- the number that a turn reads is the one from before
pub still : {before l : List Float} {i : ℕ} {f : ℕ → Float} → Over i before l f → at l i ≡ at before i
still {i = i} o = o.rest i (le_refl i)

-- a turn writes f's value there
pub one_more_over : {before l : List Float} {i : ℕ} {v : Float} {f : ℕ → Float} → i < 16 → v ≡ f i → Over i before l f → Over (i + 1) before (set l i v) f
one_more_over {before} {l} {i} {v} {f} room value o =
    record { filled = one_more room value o.filled; rest = λ j h. get_or-set_other l i j v nan (further j h) ∙ o.rest j (weaker j h) }
  where
    further : (j : ℕ) → i + 1 ≤ j → j ≡ i → ⊥
    further j h e = omega arith

    weaker : (j : ℕ) → i + 1 ≤ j → i ≤ j
    weaker j h = omega arith

-- at the end every place is written
pub all_over : {before l : List Float} {i : ℕ} {f : ℕ → Float} → 16 ≤ i → Over i before l f → Each l f
all_over h o = all_filled h o.filled
