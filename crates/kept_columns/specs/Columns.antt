-- The two entries over columns: when a call is refused, and what it answers and leaves. Rules 9 and
-- 13 are of the columns' lengths; all else is the call over the three flat lists that the columns
-- stand for.
use Rattle.std.specs.Prelude.{ℕ, ◌*◌, Bool, not, cond, ◌||◌, List, [], ◌∷◌, eqb, length}
use Rattle.tuple.specs.declared.Tuple.{Tuple}
use Rattle.sheet.specs.declared.Refusal.{Refusal}
use Rattle.sheet.specs.Rules.{rule, of_call, first_broken}
use Rattle.chain.specs.Columns.{refusal9_columns}
use Rattle.stretch.specs.KeptColumns.{KeptColumns, flat_kept_of, kept_columns_of}
use Rattle.kept.specs.Entries.{Corrected, order_by, refusal14, keep_of, corrected_as, correct_of}

-- ---- the rules

-- four columns, one of them not of n rows
unfoldable pub uneven : ℕ → ℕ → ℕ → ℕ → ℕ → Bool
uneven n x y z t = not (eqb x n) || not (eqb y n) || not (eqb z n) || not (eqb t n)

-- 9: the list's columns are of unequal length, or of over 2,048 rows
abbrev pub list_uneven : KeptColumns → Bool
list_uneven old = refusal9_columns (length old.list.x) (length old.list.y) (length old.list.z) (length old.list.t)

-- 13: a column of the results or of the track is not as long as the list's
abbrev pub kept_uneven : KeptColumns → Bool
kept_uneven old =
    uneven (length old.list.x) (length old.results.x) (length old.results.y) (length old.results.z) (length old.results.t)
    || uneven (length old.list.x) (length old.track.x) (length old.track.y) (length old.track.z) (length old.track.t)

-- in the order of the flat entries
unfoldable pub keep_columns_refusal_of : List ℕ → KeptColumns → Refusal
keep_columns_refusal_of s old = first_broken (order_by s (list_uneven old) (kept_uneven old) [])

-- and for a correction 14, four numbers a row
unfoldable pub correct_columns_refusal_of : List ℕ → KeptColumns → ℕ → Refusal
correct_columns_refusal_of s old index =
    first_broken (order_by s (list_uneven old) (kept_uneven old) (rule (of_call 14) (refusal14 (4 * length old.list.x) index) ∷ []))

-- ---- the answers

-- what a fresh run leaves: the columns of what it leaves of the flat lists; on refusal every column
-- as it was
unfoldable pub keep_columns_of : Bool → List ℕ → KeptColumns → KeptColumns
keep_columns_of inverse s old =
    cond (eqb (keep_columns_refusal_of s old).number 0) (kept_columns_of (keep_of inverse s (flat_kept_of old))) old

-- what a correction answers and leaves
pub record CorrectColumnsOutcome : Type 0 where
  pub answer : Corrected
  pub kept : KeptColumns

abbrev pub columns_outcome : Corrected → KeptColumns → CorrectColumnsOutcome
columns_outcome answer kept = record { answer = answer; kept = kept }

-- on refusal the count is zero and every column is as it was
unfoldable pub correct_columns_of : Bool → List ℕ → KeptColumns → ℕ → Tuple → CorrectColumnsOutcome
correct_columns_of inverse s old index fix =
    let refusal = correct_columns_refusal_of s old index in
    let done = correct_of inverse s (flat_kept_of old) index fix in
    cond (eqb refusal.number 0) (columns_outcome done.answer (kept_columns_of done.kept)) (columns_outcome (corrected_as refusal 0) old)
