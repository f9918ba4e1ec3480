-- What the laws of a rescue speak of: a change that a list has, changes in ascending place, and a
-- change that is one of a word that differs.
use Rattle.std.specs.Prelude.{◌≡◌, ℕ, ◌+◌, ◌*◌, ◌<◌, ◌≤◌, List, [], ◌∷◌}
use Rattle.words.specs.Words.{word32}
use Rattle.rescue.specs.Changes.{Change, change_of}

-- the list has the change
pub data Has (c : Change) : List Change → Type 0 where
  first : {l : List Change} → Has c (c ∷ l)
  later : {d : Change} {l : List Change} → Has c l → Has c (d ∷ l)

-- each place is above the one before it, the first is at least `from`, and all are below `to`
pub data Ascending : ℕ → ℕ → List Change → Type 0 where
  none : {from to : ℕ} → from ≤ to → Ascending from to []
  next : {from to : ℕ} {c : Change} {l : List Change} → from ≤ c.place → Ascending (c.place + 1) to l → Ascending from to (c ∷ l)

-- the change is that of one of the first n words, which differs between s and r
abbrev pub Differs : List ℕ → List ℕ → ℕ → Change → Type 0
Differs s r n c = (i : ℕ) × ((i < n) × ((word32 s (4 * i) ≡ word32 r (4 * i) → ⊥) × (c ≡ change_of (4 * i) (word32 s (4 * i)) (word32 r (4 * i)))))
