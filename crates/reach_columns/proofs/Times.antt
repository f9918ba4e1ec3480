-- Running mode over rows that are all at one time, or each at another than the one before. Assumes
-- nothing.
use Prim.Native.Nat.{ℕ, zero, suc, ◌+◌, ◌*◌, ◌≤◌, ◌<◌}
use native.Mathlib.Omega.{arith}
use native.Mathlib.Nat.{eq-or-lt_of_le, zero-add}
use mathlib.Core.Logic.{⊎_elim}
use mathlib.Core.Path.{◌≡◌, refl, sym, ap, ◌∙◌}
use mathlib.Core.Bool.{Bool, true, false, not, cond, ◌&&◌, true≢false}
use mathlib.Core.List.{List}
use lib.ListN.{length}
use lib.Ieee.{Float, ne}
use Rattle.blocks.specs.Each.{at}
use Rattle.lists.specs.Flat.{tuple_at}
use Rattle.lists.specs.Run.{Turns, count_of}
use Rattle.helmert.specs.declared.Shift.{Shift}
use Rattle.helmert.specs.declared.State.{State}
use Rattle.helmert.specs.Modes.{next_of, is_running_of}
use Rattle.helmert.specs.Turns.{helmert_turns}
use Rattle.helmert.proofs.Laws.{state_in_running, last_time_keeps_state}
use Rattle.columns.specs.Columns.{Level, flat_of}
use Rattle.columns.proofs.Laws.{flat-length, room, row-time}
use Rattle.reach.specs.Met.{meeting_of, helmert_met}
use Rattle.reach.proofs.Modes.{out_at, running_met_at}
use Rattle.reach_columns.proofs.Along.{Along, along_start, along_again, along_as, along_end}

-- ---- a scan: where all is true, every time before i is equal to one

pub Still : List Float → Float → ℕ → Bool → Type 0
Still t last i all = all ≡ true → (j : ℕ) → j < i → ne (at t j) last ≡ false

pub still_start : (t : List Float) (last : Float) → Still t last 0 true
unfolding Still
still_start t last e j h = absurd (omega (arith, h))

and_not : (a b : Bool) → (a && not b) ≡ true → (a ≡ true) × (b ≡ false)
and_not true true h = absurd (true≢false (sym h))
and_not true false h = (refl, refl)
and_not false b h = absurd (true≢false (sym h))

pub still-again : (t : List Float) (last : Float) (i : ℕ) (all : Bool) → Still t last i all → Still t last (i + 1) (all && not (ne (at t i) last))
unfolding Still
still-again t last i all now e j h =
    let told = and_not all (ne (at t i) last) e in
    ⊎_elim (λ (same : j ≡ i). ap (λ (k : ℕ). ne (at t k) last) same ∙ told.1) (λ (less : j < i). now told.0 j less) (eq-or-lt_of_le (omega (arith, h)))

pub still_end : (t : List Float) (last : Float) (i : ℕ) (all : Bool) → length t ≤ i → Still t last i all
    → all ≡ true → (j : ℕ) → j < length t → ne (at t j) last ≡ false
unfolding Still
still_end t last i all h now e j k = now e j (omega (arith, h, k))

-- ---- what the passes rest on, in running mode

module _ (inverse : Bool) (shift : Shift) (from : State) (x y z t : List Float) (level : Level x y z t) (running : is_running_of shift ≡ true) (rotated : shift.rotated ≡ true) (exact : shift.exact ≡ true) where
  abbrev f : Turns State
  f = meeting_of (helmert_met shift) (helmert_turns inverse shift)

  abbrev l : List Float
  l = flat_of x y z t

  -- a row whose time leaves the run in a state
  row : (i : ℕ) → i < length x → {state now : State} {n : ℕ} → next_of shift state (at t i) ≡ now → Along f from l i state n → Along f from l (i + 1) now (n + cond (out_at shift now.last) 1 0)
  row i h {state} {now} {n} e before =
      let v = tuple_at (flat_of x y z t) (4 * i) in
      let en : next_of shift state v.t ≡ now = ap (next_of shift state) (row-time x y z t level i h) ∙ e in
      let met = ap (λ (q : State). out_at shift q.last) (sym en) ∙ running_met_at shift state v running rotated exact in
      let moved = state_in_running shift inverse state v running ∙ en in
      along_as refl moved refl (along_again i (room x y z t level i h) met refl before)

  -- ---- all at one time

  module _ (now : State) (first : next_of shift from (at t 0) ≡ now) (still : (j : ℕ) → j < length t → ne (at t j) now.last ≡ false) where
    one_more : (out : Bool) (k : ℕ) → cond out (suc k) 0 + cond out 1 0 ≡ cond out (suc (suc k)) 0
    one_more true k = omega arith
    one_more false k = omega arith

    rows_at : (k : ℕ) → k < length x → Along f from l (suc k) now (cond (out_at shift now.last) (suc k) 0)
    rows_at zero h = along_as refl refl (zero-add _) (row 0 h first (along_start f from l))
    rows_at (suc k) h =
        let next : suc k + 1 ≡ suc (suc k) = omega arith in
        let stays = last_time_keeps_state shift now (at t (suc k)) (still (suc k) (omega (arith, h, level.2))) in
        along_as next refl (one_more (out_at shift now.last) k) (row (suc k) h stays (rows_at k (omega (arith, h))))

    -- every row meets it, or none
    pub one-time-count : 0 < length t → cond (out_at shift now.last) (length t) 0 ≡ count_of (meeting_of (helmert_met shift) (helmert_turns inverse shift)) 0 from (flat_of x y z t)
    one-time-count some = by (length t) refl
      where
        by : (n : ℕ) → length t ≡ n → cond (out_at shift now.last) n 0 ≡ count_of (meeting_of (helmert_met shift) (helmert_turns inverse shift)) 0 from (flat_of x y z t)
        by zero e = absurd (omega (arith, some, e))
        by (suc k) e = along_end (suc k) (rw (flat-length x y z t level) (omega (arith, e, level.2))) (rows_at k (omega (arith, e, level.2)))

  -- ---- each at another time than the one before

  -- where no time was equal to the one before, the rows before i went each by its own
  pub record ApartTo (i : ℕ) (state : State) (before : Float) (equal n : ℕ) : Type 0 where
    pub along : equal ≡ 0 → Along f from l i state n
    pub last : equal ≡ 0 → state.last ≡ before

  pub apart-start : ApartTo 0 from from.last 0 0
  apart-start = record { along = λ e. along_start f from l; last = λ e. refl }

  differs : (b : Bool) → ◌≡◌ {A = ℕ} (cond (not b) 1 0) 0 → b ≡ true
  differs true e = refl
  differs false e = absurd (omega (arith, e))

  takes : (state : State) (time : Float) → ne time state.last ≡ true → (next_of shift state time).last ≡ time
  unfolding next_of
  takes state time h = rw h

  pub apart-again : (i : ℕ) → i < length x → {state now : State} {before : Float} {met : Bool} {equal n v w : ℕ} → v ≡ cond (not (ne (at t i) before)) 1 0 → now ≡ next_of shift state (at t i)
      → met ≡ out_at shift (at t i) → w ≡ cond met 1 0 → ApartTo i state before equal n → ApartTo (i + 1) now (at t i) (equal + v) (n + w)
  apart-again i h {state} {now} {before} {met} {equal} {n} {v} {w} ev en em ew so =
      record {
        along = λ e.
            let counted = ew ∙ ap (λ (b : Bool). cond b 1 0) (em ∙ ap (out_at shift) (sym (held e))) in
            along_as refl refl (ap (λ (k : ℕ). n + k) (sym counted)) (row i h (sym en) (so.along (none e)));
        last = held;
      }
    where
      none : equal + v ≡ 0 → equal ≡ 0
      none e = omega (arith, e)

      held : equal + v ≡ 0 → now.last ≡ at t i
      held e =
          let same : v ≡ 0 = omega (arith, e) in
          ap (λ (q : State). q.last) en ∙ takes state (at t i) (ap (ne (at t i)) (so.last (none e)) ∙ differs _ (sym ev ∙ same))

  pub apart-end : (i : ℕ) {state : State} {before : Float} {equal n : ℕ} → length t ≤ i → ApartTo i state before equal n
      → equal ≡ 0 → n ≡ count_of (meeting_of (helmert_met shift) (helmert_turns inverse shift)) 0 from (flat_of x y z t)
  apart-end i h so e = along_end i (rw (flat-length x y z t level) (omega (arith, h, level.2))) (so.along e)
