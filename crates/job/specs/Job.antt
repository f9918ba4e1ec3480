-- Document 01's job, from its bytes: four words; sheet; tuples; velocities; marks, a byte each;
-- then the end.
use Rattle.std.specs.Prelude.{ℕ, zero, suc, ◌+◌, ◌*◌, Bool, not, ◌||◌, List, [], ◌∷◌, eqb, ltb, take, drop, Float}
use Rattle.words.specs.Words.{word32, number_at}
use Rattle.job.specs.declared.Head.{Head}

-- direction, sheet length, tuple count, velocity count; a byte past the end reads as 0
abbrev pub head_of : List ℕ → Head
head_of j = record { direction = word32 j 0; sheet = word32 j 4; tuples = word32 j 8; velocities = word32 j 12 }

-- ---- where the parts begin, and where the last ends

abbrev pub tuples_at : Head → ℕ
tuples_at h = 16 + h.sheet

abbrev pub velocities_at : Head → ℕ
velocities_at h = tuples_at h + 32 * h.tuples

-- three numbers a velocity
abbrev pub marks_at : Head → ℕ
marks_at h = velocities_at h + 24 * h.velocities

-- a mark for each velocity
abbrev pub end_at : Head → ℕ
end_at h = marks_at h + h.velocities

-- ---- 16, a bad job

-- direction over 1; a sheet over 4,240 bytes; over 512 tuples; velocities neither none nor as many
-- as the tuples; not as long as the words say
unfoldable pub refusal16 : Head → ℕ → Bool
refusal16 h bytes =
    ltb 1 h.direction
    || ltb 4240 h.sheet
    || ltb 512 h.tuples
    || not (eqb h.velocities 0 || eqb h.velocities h.tuples)
    || not (eqb bytes (end_at h))

-- ---- the parts

-- the first k numbers of some bytes, eight bytes each
unfoldable pub numbers_of : ℕ → List ℕ → List Float
numbers_of zero bs = []
numbers_of (suc k) bs = number_at bs 0 ∷ numbers_of k (drop 8 bs)

abbrev pub asks_inverse : List ℕ → Bool
asks_inverse j = eqb (head_of j).direction 1

unfoldable pub sheet_of : List ℕ → List ℕ
sheet_of j = take (head_of j).sheet (drop 16 j)

unfoldable pub tuples_of : List ℕ → List Float
tuples_of j = numbers_of (4 * (head_of j).tuples) (drop (tuples_at (head_of j)) j)

unfoldable pub velocities_of : List ℕ → List Float
velocities_of j = numbers_of (3 * (head_of j).velocities) (drop (velocities_at (head_of j)) j)

unfoldable pub marks_of : List ℕ → List ℕ
marks_of j = drop (marks_at (head_of j)) j
