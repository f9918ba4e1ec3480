-- How far a step has come over a list: some rows have passed through it, the rest are still to
-- come. A loop over columns is made of pieces that each take some rows; what one piece says of its
-- rows joins with what the next says of its own, so which piece takes which rows is free.
use Rattle.std.specs.Prelude.{ℕ, ◌+◌, ◌*◌, ◌≤◌, ◌≡◌, List, ◌++◌, take, drop, Float}
use Rattle.lists.specs.Run.{Turns, ran_of, count_of, state_after_of}

-- the list before row i as it stands, and what the step makes of the list from there on
abbrev pub whole_of : {S : Type 0} → Turns S → ℕ → S → List Float → List Float
whole_of f i state l = take (4 * i) l ++ ran_of f i state (drop (4 * i) l)

-- Rows i₀ to i of the list l₀ have passed, from one state to another, and n of them counted; the
-- list is then l. What the step makes in the end is the same from either row: the list, the state
-- and the count.
pub record Passed {S : Type 0} (f : Turns S) (i₀ : ℕ) (from : S) (l₀ : List Float) (i : ℕ) (state : S) (l : List Float) (n : ℕ) : Type 0 where
  pub whole : whole_of f i state l ≡ whole_of f i₀ from l₀
  pub after : state_after_of f i state (drop (4 * i) l) ≡ state_after_of f i₀ from (drop (4 * i₀) l₀)
  pub counts : n + count_of f i state (drop (4 * i) l) ≡ count_of f i₀ from (drop (4 * i₀) l₀)
  pub few : n + i₀ ≤ i

-- A step over a part of a list whose first fix has index k.
abbrev pub later_turns : {S : Type 0} → ℕ → Turns S → Turns S
later_turns k f i state v = f (k + i) state v
