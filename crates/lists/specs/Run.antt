-- A step over a list, for any step: tuple after tuple from the front, a state handed on from each
-- to the next. A rest shorter than a tuple stays as it is.
use Rattle.std.specs.Prelude.{ℕ, suc, ◌+◌, Bool, cond, List, [], ◌∷◌, ◌++◌, Float}
use Rattle.tuple.specs.declared.Tuple.{Tuple}
use Rattle.lists.specs.Flat.{four_of, numbers_of}

-- what a step makes of one tuple: the state for the next, the tuple in its place, and whether the
-- step's count takes it in
pub record Turn (S : Type 0) : Type 0 where
  pub state : S
  pub tuple : Tuple
  pub counted : Bool

-- A step, tuple by tuple: from a fix's index, the state and the tuple to its turn.
abbrev pub Turns : Type 0 → Type 0
Turns S = ℕ → S → Tuple → Turn S

-- the list afterwards, the first fix having index k
abbrev pub ran_of : {S : Type 0} → Turns S → ℕ → S → List Float → List Float
ran_of f k state (x ∷ y ∷ z ∷ t ∷ rest) =
    numbers_of (f k state (four_of x y z t)).tuple ++ ran_of f (suc k) (f k state (four_of x y z t)).state rest
ran_of f k state (x ∷ y ∷ z ∷ []) = x ∷ y ∷ z ∷ []
ran_of f k state (x ∷ y ∷ []) = x ∷ y ∷ []
ran_of f k state (x ∷ []) = x ∷ []
ran_of f k state [] = []

-- how many tuples counted
abbrev pub count_of : {S : Type 0} → Turns S → ℕ → S → List Float → ℕ
count_of f k state (x ∷ y ∷ z ∷ t ∷ rest) =
    cond (f k state (four_of x y z t)).counted 1 0 + count_of f (suc k) (f k state (four_of x y z t)).state rest
count_of f k state (x ∷ y ∷ z ∷ []) = 0
count_of f k state (x ∷ y ∷ []) = 0
count_of f k state (x ∷ []) = 0
count_of f k state [] = 0

-- the state after each tuple, written as four numbers
abbrev pub track_of : {S : Type 0} → (S → Tuple) → Turns S → ℕ → S → List Float → List Float
track_of four f k state (x ∷ y ∷ z ∷ t ∷ rest) =
    numbers_of (four (f k state (four_of x y z t)).state) ++ track_of four f (suc k) (f k state (four_of x y z t)).state rest
track_of four f k state (x ∷ y ∷ z ∷ []) = x ∷ y ∷ z ∷ []
track_of four f k state (x ∷ y ∷ []) = x ∷ y ∷ []
track_of four f k state (x ∷ []) = x ∷ []
track_of four f k state [] = []

-- the state after the last tuple
abbrev pub state_after_of : {S : Type 0} → Turns S → ℕ → S → List Float → S
state_after_of f k state (x ∷ y ∷ z ∷ t ∷ rest) = state_after_of f (suc k) (f k state (four_of x y z t)).state rest
state_after_of f k state (x ∷ y ∷ z ∷ []) = state
state_after_of f k state (x ∷ y ∷ []) = state
state_after_of f k state (x ∷ []) = state
state_after_of f k state [] = state
