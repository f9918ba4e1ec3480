-- A fresh run and a redoing over columns, from what their two parts leave. Assumes nothing.
use Prim.Native.Nat.{ℕ, ◌+◌, ◌-◌, ◌*◌, ◌%◌, ◌≤◌}
use native.Mathlib.Omega.{arith}
use mathlib.Core.Bool.{Bool, true, false, ◌&&◌}
use mathlib.Core.Path.{◌≡◌, refl, sym, ap, ◌∙◌}
use mathlib.Core.List.{List, [], ◌++◌, append-nil}
use lib.ListN.{length, take, drop, drop_of_length-le}
use lib.Dec.{ltb}
use lib.Seq.{take_all}
use lib.Ieee.{Float}
use Rattle.tuple.specs.declared.Tuple.{Tuple}
use Rattle.helmert.specs.declared.Shift.{Shift}
use Rattle.helmert.specs.declared.State.{State}
use Rattle.helmert.specs.Modes.{start_of}
use Rattle.helmert.specs.Turns.{helmert_turns}
use Rattle.lists.specs.Run.{ran_of}
use Rattle.columns.specs.Columns.{Columns, columns, Level, flat_of, column_of, columns_of}
use Rattle.columns.proofs.Laws.{flat-length, back-t}
use Rattle.stretch.specs.Kept.{kept_of, fresh_of, redone_of, redo_of, corrected_of}
use Rattle.stretch.specs.Track.{tracks_of, retrack_of}
use Rattle.stretch.specs.KeptColumns.{KeptColumns, kept_columns, flat_list_of, flat_kept_of, kept_columns_of, all_level_of, fresh_columns_of, redone_columns, put_right_columns_of}
use Rattle.stretch.proofs.Made.{fresh_is, redo_is}
use Rattle.stretch.proofs.Fits.{all_level_told, columns_of_lem}
use Rattle.stretch.proofs.Parts.{level_drop, flat-drop}

module _ (shift : Shift) (inverse : Bool) (x y z t : List Float) (h : Level x y z t) where
  -- the rows from the first to the end are all
  pub fresh-columns : (rs₀ : List Float) {rs ts : List Float} → length rs₀ ≡ 4 * length x
      → rs ≡ take (4 * 0) rs₀ ++ (ran_of (helmert_turns inverse shift) 0 (start_of shift) (take (4 * (length x - 0)) (drop (4 * 0) (flat_of x y z t))) ++ drop (4 * length x) rs₀)
      → ts ≡ tracks_of shift (start_of shift) t
      → kept_of (flat_of x y z t) rs ts ≡ fresh_of shift inverse (flat_of x y z t)
  fresh-columns rs₀ {rs} lr er et =
      let long = flat-length x y z t h in
      let whole : length (flat_of x y z t) % 4 ≡ 0 = omega (arith, long) in
      let all : take (4 * (length x - 0)) (flat_of x y z t) ≡ flat_of x y z t = take_all (4 * (length x - 0)) (flat_of x y z t) (omega (arith, long)) in
      let none : drop (4 * length x) rs₀ ≡ [] = drop_of_length-le rs₀ {i = 4 * length x} (omega (arith, lr)) in
      let ran : rs ≡ ran_of (helmert_turns inverse shift) 0 (start_of shift) (flat_of x y z t) = rw (none, append-nil, all) at er in
      fresh_is shift inverse (flat_of x y z t) whole (sym (back-t x y z t h)) ran et

  -- the later times are those of the later rows
  later-times : (index : ℕ) → drop index t ≡ column_of (λ (v : Tuple). v.t) (drop (4 * index) (flat_of x y z t))
  later-times index =
      sym (ap (column_of (λ (v : Tuple). v.t)) (sym (flat-drop x y z t h index)) ∙ back-t (drop index x) (drop index y) (drop index z) (drop index t) (level_drop x y z t h index))

  pub redo-columns : (from : State) (rs ts : List Float) (index : ℕ) {rs' ts' : List Float} {n : ℕ}
      → ts' ≡ take (4 * index) ts ++ (retrack_of shift from (drop index t) (drop (4 * index) ts)).track
      → n ≡ (retrack_of shift from (drop index t) (drop (4 * index) ts)).count
      → index + n ≤ length t
      → rs' ≡ take (4 * index) rs ++ (ran_of (helmert_turns inverse shift) 0 from (take (4 * (index + n - index)) (drop (4 * index) (flat_of x y z t))) ++ drop (4 * (index + n)) rs)
      → redone_of n (kept_of (flat_of x y z t) rs' ts') ≡ redo_of (helmert_turns inverse shift) from (kept_of (flat_of x y z t) rs ts) index
  redo-columns from rs ts index {n = n} et en within er =
      let long = flat-length x y z t h in
      let m : index + n - index ≡ n = omega arith in
      redo_is shift inverse from (flat_of x y z t) rs ts index (later-times index) en et (rw m at er) (omega (arith, long, within, h.2))

-- ---- and as columns, by the tests of the public functions

module _ (shift : Shift) (inverse : Bool) (old : KeptColumns) where
  pub fresh-left : all_level_of old ≡ false → old ≡ fresh_columns_of shift inverse old
  unfolding fresh_columns_of
  fresh-left e = rw e

  pub fresh_kept : (rx ry rz rt kx ky kz kt : List Float) → all_level_of old ≡ true → Level rx ry rz rt → Level kx ky kz kt
      → kept_of (flat_list_of old.list) (flat_of rx ry rz rt) (flat_of kx ky kz kt) ≡ fresh_of shift inverse (flat_list_of old.list)
      → kept_columns old.list (columns rx ry rz rt) (columns kx ky kz kt) ≡ fresh_columns_of shift inverse old
  unfolding fresh_columns_of
  fresh_kept rx ry rz rt kx ky kz kt e lr lk made =
      let level = all_level_told old e in
      rw e
      (ap (λ (c : Columns). kept_columns c (columns rx ry rz rt) (columns kx ky kz kt)) (columns_of_lem old.list.x old.list.y old.list.z old.list.t level.0 refl)
      ∙ ap (λ (c : Columns). kept_columns (columns_of (flat_list_of old.list)) c (columns kx ky kz kt)) (columns_of_lem rx ry rz rt lr refl)
      ∙ ap (λ (c : Columns). kept_columns (columns_of (flat_list_of old.list)) (columns_of (flat_of rx ry rz rt)) c) (columns_of_lem kx ky kz kt lk refl)
      ∙ ap kept_columns_of made)

  module _ (index : ℕ) (fix : Tuple) where
    pub right-left : all_level_of old && ltb index (length old.list.x) ≡ false → redone_columns 0 old ≡ put_right_columns_of shift inverse old index fix
    unfolding put_right_columns_of
    right-left e = rw e

    pub right-put : {n : ℕ} (x y z t rx ry rz rt kx ky kz kt : List Float) → all_level_of old && ltb index (length old.list.x) ≡ true
        → Level x y z t → Level rx ry rz rt → Level kx ky kz kt
        → redone_of n (kept_of (flat_of x y z t) (flat_of rx ry rz rt) (flat_of kx ky kz kt)) ≡ corrected_of shift inverse (flat_kept_of old) index fix
        → redone_columns n (kept_columns (columns x y z t) (columns rx ry rz rt) (columns kx ky kz kt)) ≡ put_right_columns_of shift inverse old index fix
    unfolding put_right_columns_of
    right-put x y z t rx ry rz rt kx ky kz kt e ll lr lk made =
        rw (e, ← made, columns_of_lem x y z t ll refl, columns_of_lem rx ry rz rt lr refl, columns_of_lem kx ky kz kt lk refl)
