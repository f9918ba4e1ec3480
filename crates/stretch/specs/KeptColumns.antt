-- What is kept, as columns: the list, its results and its track, four columns each; the three flat
-- lists that they stand for; and what a run and a correction leave of them.
use Rattle.std.specs.Prelude.{ℕ, ◌≡◌, Bool, cond, ◌&&◌, List, ltb, leb, length, Float}
use Rattle.tuple.specs.declared.Tuple.{Tuple}
use Rattle.helmert.specs.declared.Shift.{Shift}
use Rattle.columns.specs.Columns.{Columns, columns_of, Level, flat_of}
use Rattle.stretch.specs.Rows.{has_rows}
use Rattle.stretch.specs.Kept.{Kept, kept_of, fresh_of, corrected_of}

pub record KeptColumns : Type 0 where
  pub list : Columns
  pub results : Columns
  pub track : Columns

abbrev pub kept_columns : Columns → Columns → Columns → KeptColumns
kept_columns list results track = record { list = list; results = results; track = track }

-- the flat list of four columns
abbrev pub flat_list_of : Columns → List Float
flat_list_of k = flat_of k.x k.y k.z k.t

-- there: the three flat lists that the columns stand for
abbrev pub flat_kept_of : KeptColumns → Kept
flat_kept_of k = kept_of (flat_list_of k.list) (flat_list_of k.results) (flat_list_of k.track)

-- and back: the columns of three flat lists
abbrev pub kept_columns_of : Kept → KeptColumns
kept_columns_of k = kept_columns (columns_of k.list) (columns_of k.results) (columns_of k.track)

-- four columns of one length
abbrev pub LevelColumns : Columns → Type 0
LevelColumns k = Level k.x k.y k.z k.t

-- twelve columns of one length
abbrev pub AllLevel : KeptColumns → Type 0
AllLevel k =
    LevelColumns k.list × LevelColumns k.results × LevelColumns k.track
    × (length k.results.x ≡ length k.list.x) × (length k.track.x ≡ length k.list.x)

-- ---- the same as a test

-- four columns beside four others, all of one length, and rows from one index to another in them
unfoldable pub rows_beside_of : Columns → Columns → ℕ → ℕ → Bool
rows_beside_of a b start end = has_rows (length a.x) a && has_rows (length a.x) b && leb start end && leb end (length a.x)

-- all twelve columns of one length
unfoldable pub all_level_of : KeptColumns → Bool
all_level_of k = has_rows (length k.list.x) k.list && has_rows (length k.list.x) k.results && has_rows (length k.list.x) k.track

-- ---- a run and a correction

-- what a fresh run leaves; all twelve columns as they were where they are not of one length
unfoldable pub fresh_columns_of : Shift → Bool → KeptColumns → KeptColumns
fresh_columns_of shift inverse old = cond (all_level_of old) (kept_columns_of (fresh_of shift inverse (flat_list_of old.list))) old

-- what a correction leaves, and how many fixes it redid
pub record RedoneColumns : Type 0 where
  pub count : ℕ
  pub kept : KeptColumns

abbrev pub redone_columns : ℕ → KeptColumns → RedoneColumns
redone_columns count kept = record { count = count; kept = kept }

-- none, and all twelve columns as they were, where they are not of one length or no fix stands at
-- the index
unfoldable pub put_right_columns_of : Shift → Bool → KeptColumns → ℕ → Tuple → RedoneColumns
put_right_columns_of shift inverse old index fix =
    let done = corrected_of shift inverse (flat_kept_of old) index fix in
    cond (all_level_of old && ltb index (length old.list.x)) (redone_columns done.count (kept_columns_of done.kept)) (redone_columns 0 old)
