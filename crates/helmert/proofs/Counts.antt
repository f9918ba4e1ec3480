-- What a step over a list counts, where it goes by the tuple alone: as many as there are tuples of
-- which that holds. So a step that counts every tuple counts as many as the list has, a rest
-- shorter than a tuple being none; and Helmert counts every tuple in static, fixed and running
-- mode, and in own-epoch mode those whose time is given. Assumes nothing.
use Prim.Native.Nat.{ℕ, suc, ◌+◌, ◌/◌, ◌≤◌}
use mathlib.Core.Path.{◌≡◌, refl, ap}
use mathlib.Core.Bool.{Bool, true, false, cond}
use mathlib.Core.List.{List, [], ◌∷◌}
use lib.ListN.{length, drop}
use lib.Ieee.{Float}
use Rattle.tuple.specs.declared.Tuple.{Tuple}
use Rattle.lists.specs.Flat.{four_of, tuple_at}
use Rattle.lists.specs.Run.{Turns, count_of}
use Rattle.lists.proofs.Laws.{count_all}
use Rattle.lists.proofs.Places.{from_place}
use Rattle.helmert.specs.declared.Shift.{Shift}
use Rattle.helmert.specs.declared.State.{State}
use Rattle.helmert.specs.Modes.{is_own_epoch_of, counted_of}
use Rattle.helmert.specs.Turns.{all_turns, helmert_turns, number_of, timed_of}
use Rattle.helmert.proofs.Laws.{counts_but_in_own_epoch}

-- a step that sees the tuple alone
pub all_count : (f : Tuple → Tuple) (k : ℕ) (state : State) (l : List Float) → count_of (all_turns f) k state l ≡ length l / 4
all_count f = count_all (all_turns f) (λ k state v. refl)

-- a count that goes by the tuple alone, whatever the step carries
pub count_by_tuple : {S : Type 0} (f : Turns S) (p : Tuple → Bool) → ((k : ℕ) (state : S) (v : Tuple) → (f k state v).counted ≡ p v)
    → (k : ℕ) (state : S) (l : List Float) → count_of f k state l ≡ number_of p l
count_by_tuple f p same k state (x ∷ y ∷ z ∷ t ∷ rest) =
    rw (same k state (four_of x y z t))
    (ap (λ (more : ℕ). cond (p (four_of x y z t)) 1 0 + more) (count_by_tuple f p same (suc k) (f k state (four_of x y z t)).state rest))
count_by_tuple f p same k state (x ∷ y ∷ z ∷ []) = refl
count_by_tuple f p same k state (x ∷ y ∷ []) = refl
count_by_tuple f p same k state (x ∷ []) = refl
count_by_tuple f p same k state [] = refl

-- the number from a place of a list on: the tuple there, and the rest
pub number_open : (p : Tuple → Bool) (l : List Float) (i : ℕ) → i + 4 ≤ length l
    → number_of p (drop i l) ≡ cond (p (tuple_at l i)) 1 0 + number_of p (drop (i + 4) l)
number_open p l i h = rw (from_place l i h)

counts_if_timed : (shift : Shift) (v : Tuple) → is_own_epoch_of shift ≡ true → counted_of shift v ≡ timed_of v
unfolding counted_of
counts_if_timed shift v own = rw own

module _ (inverse : Bool) (shift : Shift) (k : ℕ) (state : State) (l : List Float) where
  -- Helmert, in every mode and both ways
  pub helmert-count : count_of (helmert_turns inverse shift) k state l ≡ number_of (counted_of shift) l
  helmert-count = count_by_tuple (helmert_turns inverse shift) (counted_of shift) (λ k state v. refl) k state l

  -- in own-epoch mode: the tuples whose time is given
  pub own-epoch-count : is_own_epoch_of shift ≡ true → count_of (helmert_turns inverse shift) k state l ≡ number_of timed_of l
  own-epoch-count own = count_by_tuple (helmert_turns inverse shift) timed_of (λ k state v. counts_if_timed shift v own) k state l

  -- in static, fixed and running mode: every tuple
  pub every-tuple-counts-but-in-own-epoch : is_own_epoch_of shift ≡ false → count_of (helmert_turns inverse shift) k state l ≡ length l / 4
  every-tuple-counts-but-in-own-epoch other =
      count_all (helmert_turns inverse shift) (λ k state v. counts_but_in_own_epoch shift v other) k state l
