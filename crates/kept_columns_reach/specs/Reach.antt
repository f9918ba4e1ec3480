-- What a fresh kept run and a correction over columns tell: the numbers of the flat lists that the
-- columns stand for.
use Rattle.std.specs.Prelude.{ℕ, ◌*◌, Bool, cond, List, eqb}
use Rattle.tuple.specs.declared.Tuple.{Tuple}
use Rattle.helmert.specs.Modes.{start_of}
use Rattle.lists.specs.Flat.{put_at}
use Rattle.tally.specs.declared.Tally.{Tally}
use Rattle.tally.specs.Tallies.{no_tally}
use Rattle.plans.specs.Passes.{tally_of}
use Rattle.stretch.specs.Kept.{before_of}
use Rattle.stretch.specs.KeptColumns.{KeptColumns, flat_list_of}
use Rattle.kept.specs.Entries.{shift_in}
use Rattle.kept_columns.specs.Columns.{keep_columns_refusal_of, correct_columns_of}
use Rattle.kept_reach.specs.Reach.{pass_in, fixes_from, met_from}

-- a fresh run; zeros on refusal
unfoldable pub keep_columns_tally_of : Bool → List ℕ → KeptColumns → Tally
keep_columns_tally_of inverse s old =
    cond (eqb (keep_columns_refusal_of s old).number 0) (tally_of (pass_in inverse s) 0 (start_of (shift_in s)) (flat_list_of old.list)) no_tally

-- a correction, over its stretch; a refused one redoes none
unfoldable pub stretch_columns_met_of : Bool → List ℕ → KeptColumns → ℕ → Tuple → ℕ
stretch_columns_met_of inverse s old index fix =
    met_from inverse s index (before_of (shift_in s) (flat_list_of old.track) index)
    (fixes_from (put_at (flat_list_of old.list) (4 * index) fix) index (correct_columns_of inverse s old index fix).answer.redone)
