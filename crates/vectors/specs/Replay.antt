-- A record of the fixed answers, told beside what the library's definitions make of its job.
-- README.md has the layout of both files.
use Rattle.std.specs.Prelude.{ℕ, Result, Ok, Err, zero, suc, ◌+◌, ◌*◌, Bool, cond, ◌&&◌, List, [], ◌∷◌, length, take, drop, ◌==◌, nat_le, slice_index, slice_index_or, to_bits, Float}
use Rattle.std.specs.Float.{nan, binary64}
use Rattle.words.specs.Words.{word32, word64, number_at}
use Rattle.tuple.specs.declared.Tuple.{Tuple}
use Rattle.ellipsoid.specs.Figure.{named_of}
use Rattle.geocart.specs.Geocart.{geographic_of}
use Rattle.sheet.specs.declared.Refusal.{Refusal}
use Rattle.tally.specs.declared.Tally.{Tally}
use Rattle.tally.specs.Tallies.{counts_of}
use Rattle.chain.specs.Rules.{Answer, Outcome, refused_answer, ran_answer, shift_of}

-- ---- words told and words found

-- 1 where two words differ
abbrev pub differ : ℕ → ℕ → ℕ
differ found told = cond (found == told) 0 1

-- in how many of the first n places a word found differs from the word told
unfoldable pub differing_of : (ℕ → ℕ) → (ℕ → ℕ) → ℕ → ℕ
differing_of found told zero = 0
differing_of found told (suc n) = differing_of found told n + differ (found n) (told n)

-- Sixteen counts are told as words of 32 bits, numbers by their 64 bits: a zero's sign counts, and
-- every NaN is 7ff8000000000000.
abbrev pub differing_counts : List ℕ → ℕ → List ℕ → ℕ
differing_counts s at counts = differing_of (λ i. slice_index counts i) (λ i. word32 s (at + 4 * i)) 16

abbrev pub differing_numbers : List ℕ → ℕ → List Float → ℕ
differing_numbers s at l = differing_of (λ i. to_bits binary64 (slice_index_or l i nan)) (λ i. word64 s (at + 8 * i)) (length l)

-- ---- a job

-- as many numbers, from a place on
unfoldable pub numbers_of : List ℕ → ℕ → ℕ → List Float
numbers_of s at zero = []
numbers_of s at (suc n) = number_at s at ∷ numbers_of s (at + 8) n

-- the lengths that a job's head tells
abbrev pub sheet_length : List ℕ → ℕ
sheet_length job = word32 job 4

abbrev pub tuple_count : List ℕ → ℕ
tuple_count job = word32 job 8

abbrev pub velocity_count : List ℕ → ℕ
velocity_count job = word32 job 12

-- where the tuples, the velocities and the marks begin
abbrev pub tuples_at : List ℕ → ℕ
tuples_at job = 16 + sheet_length job

abbrev pub velocities_at : List ℕ → ℕ
velocities_at job = tuples_at job + 32 * tuple_count job

abbrev pub marks_at : List ℕ → ℕ
marks_at job = velocities_at job + 24 * velocity_count job

-- a job of at most 24 tuples and its answer, each as long as the job's head says
unfoldable pub laid_out : List ℕ → List ℕ → Bool
laid_out job told =
    nat_le (word32 job 0) 1
    && nat_le (tuple_count job) 24
    && nat_le (velocity_count job) 24
    && length job == marks_at job + velocity_count job
    && length told == 72 + 32 * tuple_count job

-- what the chain makes of the job
unfoldable pub shifted_of : List ℕ → Outcome
shifted_of job =
    shift_of
    (word32 job 0 == 1)
    (take (sheet_length job) (drop 16 job))
    (numbers_of job (tuples_at job) (4 * tuple_count job))
    (numbers_of job (velocities_at job) (3 * velocity_count job))
    (take (velocity_count job) (drop (marks_at job) job))

-- the answer that a function hands out: beside tallies no refusal, beside a refusal zeros
abbrev pub answer_in : Result (List Tally) Refusal → Answer
answer_in (Ok tallies) = ran_answer tallies
answer_in (Err refusal) = refused_answer refusal

-- in how many words an outcome differs from the answer told: the refusal, its step, the counts, the
-- list
unfoldable pub compared_of : List ℕ → Outcome → ℕ
compared_of told o =
    differ o.answer.refusal.number (word32 told 0)
    + differ o.answer.refusal.step (word32 told 4)
    + differing_counts told 8 (counts_of o.answer.tallies)
    + differing_numbers told 72 o.list

-- a record that is not laid out so is one difference
unfoldable pub replay_of : List ℕ → List ℕ → ℕ
replay_of job told = cond (laid_out job told) (compared_of told (shifted_of job)) 1

-- ---- a place

-- an ellipsoid's number, a tuple, and `geographic` of it
abbrev pub four : Tuple → List Float
four v = v.x ∷ v.y ∷ v.z ∷ v.t ∷ []

abbrev pub tuple_in : List ℕ → ℕ → Tuple
tuple_in s at = record { x = number_at s at; y = number_at s (at + 8); z = number_at s (at + 16); t = number_at s (at + 24) }

unfoldable pub geographic_differing_of : List ℕ → ℕ
geographic_differing_of s = differing_numbers s 40 (four (geographic_of (named_of (word32 s 0)) (tuple_in s 8)))
