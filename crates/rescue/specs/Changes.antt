-- The words of header and directory that differ, in ascending place. A place is counted in bytes
-- from the sheet's start.
use Rattle.std.specs.Prelude.{ℕ, zero, suc, ◌+◌, ◌*◌, cond, List, [], ◌∷◌, ◌++◌, eqb}
use Rattle.words.specs.Words.{word32}
use Rattle.rescue.specs.Rebuilt.{count_word, rebuilt_of}

-- a word changed: its place, and what it was and is
pub record Change : Type 0 where
  pub place : ℕ
  pub old : ℕ
  pub new : ℕ

abbrev pub change_of : ℕ → ℕ → ℕ → Change
change_of place old new = record { place = place; old = old; new = new }

-- the change of a word; none where old and new are equal
unfoldable pub changed_of : ℕ → ℕ → ℕ → List Change
changed_of place old new = cond (eqb old new) [] (change_of place old new ∷ [])

-- the change from s to r at a place
abbrev pub change_at : List ℕ → List ℕ → ℕ → List Change
change_at s r place = changed_of place (word32 s place) (word32 r place)

-- the changes in the first n words
unfoldable pub changes_in : List ℕ → List ℕ → ℕ → List Change
changes_in s r zero = []
changes_in s r (suc n) = changes_in s r n ++ change_at s r (4 * n)

-- how many words header and directory have: four, and four a step
abbrev pub head_words : List ℕ → ℕ
head_words s = 4 + 4 * count_word s

-- the changes of a rescue
unfoldable pub changes_of : List ℕ → List Change
changes_of s = changes_in s (rebuilt_of s) (head_words s)

-- as they are listed: three words a change
unfoldable pub list_of : List Change → List ℕ
list_of [] = []
list_of (c ∷ l) = c.place ∷ c.old ∷ c.new ∷ list_of l
