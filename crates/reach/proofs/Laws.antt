-- A step told again with "met" in place of "counted" makes the same list and the same states, so
-- the second number never moves what the step gives. Where "met" goes by the tuple alone, it is the
-- number of such tuples. Assumes nothing.
use Prim.Native.Nat.{ℕ, suc}
use native.Mathlib.Nat.{zero-add}
use mathlib.Core.Path.{◌≡◌, refl, ap, ◌∙◌}
use mathlib.Core.Bool.{Bool, false}
use mathlib.Core.List.{List, [], ◌∷◌, ◌++◌}
use lib.Ieee.{Float}
use Rattle.tuple.specs.declared.Tuple.{Tuple}
use Rattle.lists.specs.Flat.{four_of, numbers_of}
use Rattle.lists.specs.Run.{Turns, ran_of, count_of, state_after_of}
use Rattle.helmert.specs.Turns.{number_of}
use Rattle.helmert.proofs.Counts.{count_by_tuple}
use Rattle.reach.specs.Met.{Met, meeting_of}

-- ---- the turns told again

module _ {S : Type 0} (met : Met S) (f : Turns S) where
  pub meeting-ran : (k : ℕ) (state : S) (l : List Float) → ran_of (meeting_of met f) k state l ≡ ran_of f k state l
  meeting-ran k state (x ∷ y ∷ z ∷ t ∷ rest) =
      ap (λ (more : List Float). numbers_of (f k state (four_of x y z t)).tuple ++ more) (meeting-ran (suc k) (f k state (four_of x y z t)).state rest)
  meeting-ran k state (x ∷ y ∷ z ∷ []) = refl
  meeting-ran k state (x ∷ y ∷ []) = refl
  meeting-ran k state (x ∷ []) = refl
  meeting-ran k state [] = refl

  pub meeting-state : (k : ℕ) (state : S) (l : List Float) → state_after_of (meeting_of met f) k state l ≡ state_after_of f k state l
  meeting-state k state (x ∷ y ∷ z ∷ t ∷ rest) = meeting-state (suc k) (f k state (four_of x y z t)).state rest
  meeting-state k state (x ∷ y ∷ z ∷ []) = refl
  meeting-state k state (x ∷ y ∷ []) = refl
  meeting-state k state (x ∷ []) = refl
  meeting-state k state [] = refl

-- by the tuple alone
pub met_by_tuple : {S : Type 0} (p : Tuple → Bool) (f : Turns S) (k : ℕ) (state : S) (l : List Float)
    → count_of (meeting_of (λ k state v. p v) f) k state l ≡ number_of p l
met_by_tuple p f = count_by_tuple (meeting_of (λ k state v. p v) f) p (λ k state v. refl)

-- no tuple
pub none_of : (l : List Float) → number_of (λ (v : Tuple). false) l ≡ 0
none_of (x ∷ y ∷ z ∷ t ∷ rest) = zero-add _ ∙ none_of rest
none_of (x ∷ y ∷ z ∷ []) = refl
none_of (x ∷ y ∷ []) = refl
none_of (x ∷ []) = refl
none_of [] = refl
