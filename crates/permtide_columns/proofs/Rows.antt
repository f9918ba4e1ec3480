-- Heights put into their column are tuples put into the flat list that the columns stand for: the
-- other three numbers of each stay (`height-set`, `part-rows`). So a row whose height is put has
-- passed, and so have sixteen (`row-passed`, `sixteen-passed`). Assumes nothing.
use Prim.Native.Nat.{ℕ, zero, suc, ◌+◌, ◌*◌, ◌≤◌, ◌<◌}
use native.Mathlib.Omega.{arith}
use mathlib.Core.Path.{◌≡◌, refl, sym, ap, ◌∙◌}
use mathlib.Core.Bool.{Bool, true, false, cond}
use mathlib.Core.List.{List}
use lib.ListN.{length, set, drop, length-set}
use lib.Seq.{set-get_or, get_or-drop}
use lib.Ieee.{Float, nan}
use Rattle.blocks.specs.Each.{at, Each}
use Rattle.tuple.specs.declared.Tuple.{Tuple}
use Rattle.tuple.specs.Columns.{row_of}
use Rattle.permtide.specs.declared.Tide.{Tide}
use Rattle.permtide.specs.Step.{fwd_of, inv_of}
use Rattle.lists.specs.Flat.{four_of, put_at, tuple_at}
use Rattle.lists.specs.Sixteen.{row_at, put_rows}
use Rattle.lists.proofs.Sixteen.{Columns, put-rows, turned}
use Rattle.helmert.specs.Turns.{no_state, all_turns}
use Rattle.turns.proofs.Columns.{all_taken}
use Rattle.columns.specs.Columns.{Level, flat_of}
use Rattle.columns.specs.Passed.{Passed}
use Rattle.columns.proofs.Laws.{room, row-there, row-set}
use Rattle.columns.proofs.Passed.{passed-row, passed-sixteen}
use Rattle.column_blocks.proofs.Blocks.{block_room, block_row}
use Rattle.permtide_columns.specs.Heights.{height_of, shifted_of, part_put}

-- ---- either direction

pub either_turns : (op : Tide) (inverse : Bool) → all_turns (shifted_of op inverse) ≡ cond inverse (all_turns (inv_of op)) (all_turns (fwd_of op))
either_turns op true = refl
either_turns op false = refl

-- ---- heights put

module _ (x y z t : List Float) (h : Level x y z t) (i : ℕ) (k : i < length x) where
  height-set : (height : Float) → flat_of x y (set z i height) t ≡ put_at (flat_of x y z t) (4 * i) (four_of (at x i) (at y i) height (at t i))
  height-set height = rw (set-get_or x i nan, set-get_or y i nan, set-get_or t i nan) at (row-set x y z t h i k (four_of (at x i) (at y i) height (at t i)))

  pub row-passed : (op : Tide) (inverse : Bool) {v : Tuple} {z' : List Float} → v ≡ shifted_of op inverse (tuple_at (flat_of x y z t) (4 * i)) → z' ≡ set z i v.z
      → Passed (all_turns (shifted_of op inverse)) i no_state (flat_of x y z t) (i + 1) no_state (flat_of x y z' t) 1
  row-passed op inverse {v} ev ez =
      let there = ev ∙ ap (shifted_of op inverse) (sym (row-there x y z t h i k)) in
      let stays = ap (λ (w : Tuple). four_of (at x i) (at y i) w.z (at t i)) there ∙ sym there in
      passed-row i (room x y z t h i k) ev refl
      (ap (λ (u : List Float). flat_of x y u t) ez ∙ height-set v.z ∙ ap (put_at (flat_of x y z t) (4 * i)) stays)

module _ (x y z t : List Float) (h : Level x y z t) (i : ℕ) where
  part_length : (b : List Float) (n : ℕ) → length (part_put z i b n) ≡ length z
  part_length b zero = refl
  part_length b (suc n) = length-set (part_put z i b n) (i + n) (at b n) ∙ part_length b n

  -- a row from the index on
  row_from : (u : List Float) (n : ℕ) → row_of (drop i x) (drop i y) u (drop i t) n ≡ four_of (at x (i + n)) (at y (i + n)) (at u n) (at t (i + n))
  row_from u n = rw (get_or-drop i x n nan, get_or-drop i y n nan, get_or-drop i t n nan)

  part-rows : (b : List Float) (n : ℕ) → i + n ≤ length x → flat_of x y (part_put z i b n) t ≡ put_rows (flat_of x y z t) (4 * i) (row_of (drop i x) (drop i y) b (drop i t)) n
  part-rows b zero k = refl
  part-rows b (suc n) k =
      let l = flat_of x y z t in
      let v = four_of (at x (i + n)) (at y (i + n)) (at b n) (at t (i + n)) in
      let rows = row_of (drop i x) (drop i y) b (drop i t) in
      let place : 4 * (i + n) ≡ 4 * i + 4 * n = omega arith in
      let level : Level x y (part_put z i b n) t = (h.0, part_length b n ∙ h.1, h.2) in
      height-set x y (part_put z i b n) t level (i + n) (omega arith) (at b n)
      ∙ ap (λ (u : List Float). put_at u (4 * (i + n)) v) (part-rows b n (omega arith))
      ∙ ap (λ (m : ℕ). put_at (put_rows l (4 * i) rows n) m v) place
      ∙ ap (put_at (put_rows l (4 * i) rows n) (4 * i + 4 * n)) (sym (row_from b n))

module _ (x y z t : List Float) (h : Level x y z t) (i : ℕ) (k : i + 16 ≤ length x) (op : Tide) (inverse : Bool) where
  pub sixteen-passed : {by bz oz z' : List Float} → Each by (λ (j : ℕ). at y (i + j)) → Each bz (λ (j : ℕ). at z (i + j))
      → Each oz (λ (j : ℕ). height_of op inverse (at by j) (at bz j)) → z' ≡ part_put z i oz 16
      → Passed (all_turns (shifted_of op inverse)) i no_state (flat_of x y z t) (i + 16) no_state (flat_of x y z' t) 16
  sixteen-passed {by} {bz} {oz} ey ez eo el =
      let l = flat_of x y z t in
      let f = shifted_of op inverse in
      let read : Columns (row_at l (4 * i)) (drop i x) (drop i y) (drop i z) (drop i t) =
      record {
        row = λ j few.
            row_from x y z t h i (drop i z) j
            ∙ ap (λ (u : Float). four_of (at x (i + j)) (at y (i + j)) u (at t (i + j))) (get_or-drop i z j nan)
            ∙ row-there x y z t h (i + j) (omega (arith, k, few))
            ∙ block_row x y z t h i k j;
      } in
      let made : Columns (λ (j : ℕ). f (row_of (drop i x) (drop i y) (drop i z) (drop i t) j)) (drop i x) (drop i y) oz (drop i t) =
      record { row = λ j few. rw (eo.held j few, ey.held j few, ez.held j few, get_or-drop i y j nan, get_or-drop i z j nan) } in
      let put = ap (λ (u : List Float). flat_of x y u t) el ∙ part-rows x y z t h i oz 16 k ∙ sym (put-rows l (4 * i) (drop i x) (drop i y) oz (drop i t) (block_room x y z t h i k)) in
      passed-sixteen (λ j v. refl) i (block_room x y z t h i k) (turned (all_turns f) no_state l (4 * i) read made put) (all_taken f l (4 * i))
