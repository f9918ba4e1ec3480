-- A slice takes fewer than 2^63 bytes, so no velocity and no mark is lent from index 2^63 on. Any
-- two indices from there on find the same: a part of a list that begins at one may be moved as if
-- it began at the other (`lent_alike`), and a sum of two indices that is held within a machine's
-- numbers and then by `lent_from` finds what the sum itself finds (`lent_there`). Assumes nothing.
use Prim.Native.Nat.{ℕ, ◌+◌, ◌-◌, ◌/◌, ◌^◌, ◌≤◌, ◌<◌, min}
use native.Mathlib.Omega.{arith}
use mathlib.Core.Path.{◌≡◌, refl, sym, ap, ◌∙◌, fun_ext}
use mathlib.Core.Bool.{Bool, true, false, cond}
use mathlib.Core.List.{List}
use borrow.Author.Tests.{ltb-true, ltb-false, le-ltb}
use native.Mathlib.Nat.{add-zero}
use lib.Dec.{ltb}
use lib.ListN.{length, get_or-eq_default}
use lib.Ieee.{Float, nan}
use Rattle.std.proofs.Math.Nat.{le-min, min-eq_left}
use Rattle.tuple.specs.declared.Tuple.{Tuple}
use Rattle.deformation.specs.declared.Motion.{Motion}
use Rattle.lists.specs.Run.{Turns, ran_of, count_of}
use Rattle.helmert.specs.declared.State.{State}
use Rattle.helmert.specs.Turns.{no_state}
use Rattle.turns.specs.Turns.{velocity_at, mark_at, moved_turns}
use Rattle.reach.specs.Met.{moved_met_turns}
use Rattle.columns.specs.Passed.{later_turns}
use Rattle.columns.proofs.Passed.{later-ran, later-counted}

-- the index that stands for another
abbrev cap_of : ℕ → ℕ
cap_of first = cond (ltb first (2 ^ 63)) first (2 ^ 63)

module _ (op : Motion) (inverse : Bool) (velocities : List Float) (marks : List ℕ) (hv : length velocities < 2 ^ 63) (hm : length marks < 2 ^ 63) where
  no-velocity : (k : ℕ) → 2 ^ 63 ≤ k → velocity_at velocities k ≡ record { east = nan; north = nan; up = nan }
  unfolding velocity_at
  no-velocity k h = rw (le-ltb k (length velocities / 3) (omega (arith, h, hv)))

  no-mark : (k : ℕ) → 2 ^ 63 ≤ k → mark_at marks k ≡ 0
  no-mark k h = get_or-eq_default marks 0 (omega (arith, h, hm))

  pub lent_there : (n s j : ℕ) → s ≡ min n (2 ^ 64 - 1)
      → (velocity_at velocities (cap_of s + j) ≡ velocity_at velocities (n + j)) × (mark_at marks (cap_of s + j) ≡ mark_at marks (n + j))
  lent_there n s j held = by (ltb n (2 ^ 63)) refl
    where
      by : (b : Bool) → ltb n (2 ^ 63) ≡ b
          → (velocity_at velocities (cap_of s + j) ≡ velocity_at velocities (n + j)) × (mark_at marks (cap_of s + j) ≡ mark_at marks (n + j))
      by true e =
          let same : s ≡ n = held ∙ min-eq_left (omega (arith, ltb-true n (2 ^ 63) e)) in
          let index : cap_of s ≡ n = rw same (rw e refl) in
          (ap (λ (k : ℕ). velocity_at velocities (k + j)) index, ap (λ (k : ℕ). mark_at marks (k + j)) index)
      by false e =
          let far = ltb-false n (2 ^ 63) e in
          let held_far : 2 ^ 63 ≤ s = rw held (le-min far (omega arith)) in
          let index : cap_of s ≡ 2 ^ 63 = rw (le-ltb s (2 ^ 63) held_far) refl in
          (ap (λ (k : ℕ). velocity_at velocities (k + j)) index ∙ no-velocity (2 ^ 63 + j) (omega arith) ∙ sym (no-velocity (n + j) (omega (arith, far))), ap (λ (k : ℕ). mark_at marks (k + j)) index ∙ no-mark (2 ^ 63 + j) (omega arith) ∙ sym (no-mark (n + j) (omega (arith, far))))

  pub lent_at : (n s : ℕ) → s ≡ min n (2 ^ 64 - 1)
      → (velocity_at velocities (cap_of s) ≡ velocity_at velocities n) × (mark_at marks (cap_of s) ≡ mark_at marks n)
  lent_at n s held =
      let e = lent_there n s 0 held in
      (rw (add-zero (cap_of s), add-zero n) at e.0, rw (add-zero (cap_of s), add-zero n) at e.1)

  -- the turns of two parts from there on are the same, and those that count who meets an angle out
  -- of reach
  turns-alike : (j k : ℕ) → 2 ^ 63 ≤ j → 2 ^ 63 ≤ k → later_turns j (moved_turns op inverse velocities marks) ≡ later_turns k (moved_turns op inverse velocities marks)
  turns-alike j k hj hk =
      fun_ext
      (λ (i : ℕ). fun_ext
      (λ (state : State). fun_ext
      (λ (v : Tuple).
      rw (no-velocity (j + i) (omega (arith, hj)), no-velocity (k + i) (omega (arith, hk)), no-mark (j + i) (omega (arith, hj)), no-mark (k + i) (omega (arith, hk))))))

  met-alike : (j k : ℕ) → 2 ^ 63 ≤ j → 2 ^ 63 ≤ k → later_turns j (moved_met_turns op inverse velocities marks) ≡ later_turns k (moved_met_turns op inverse velocities marks)
  met-alike j k hj hk =
      fun_ext
      (λ (i : ℕ). fun_ext
      (λ (state : State). fun_ext
      (λ (v : Tuple).
      rw (no-velocity (j + i) (omega (arith, hj)), no-velocity (k + i) (omega (arith, hk)), no-mark (j + i) (omega (arith, hj)), no-mark (k + i) (omega (arith, hk))))))

  -- a run from an index and from the one that stands for it
  capped : (f : Turns State) → ((j k : ℕ) → 2 ^ 63 ≤ j → 2 ^ 63 ≤ k → later_turns j f ≡ later_turns k f) → (first : ℕ) (l : List Float)
      → (ran_of f (cap_of first) no_state l ≡ ran_of f first no_state l) × (count_of f (cap_of first) no_state l ≡ count_of f first no_state l)
  capped f alike first l = by (ltb first (2 ^ 63)) refl
    where
      by : (b : Bool) → ltb first (2 ^ 63) ≡ b
          → (ran_of f (cond b first (2 ^ 63)) no_state l ≡ ran_of f first no_state l) × (count_of f (cond b first (2 ^ 63)) no_state l ≡ count_of f first no_state l)
      by true e = (refl, refl)
      by false e =
          let same = alike (2 ^ 63) first (omega arith) (ltb-false first (2 ^ 63) e) in
          (sym (later-ran f (2 ^ 63) no_state l) ∙ ap (λ (g : Turns State). ran_of g 0 no_state l) same ∙ later-ran f first no_state l, sym (later-counted f (2 ^ 63) no_state l) ∙ ap (λ (g : Turns State). count_of g 0 no_state l) same ∙ later-counted f first no_state l)

  pub lent_alike : (first : ℕ) (l : List Float)
      → (ran_of (moved_turns op inverse velocities marks) (cap_of first) no_state l ≡ ran_of (moved_turns op inverse velocities marks) first no_state l)
      × (count_of (moved_turns op inverse velocities marks) (cap_of first) no_state l ≡ count_of (moved_turns op inverse velocities marks) first no_state l)
      × (count_of (moved_met_turns op inverse velocities marks) (cap_of first) no_state l ≡ count_of (moved_met_turns op inverse velocities marks) first no_state l)
  lent_alike first l =
      let same = capped (moved_turns op inverse velocities marks) turns-alike first l in
      (same.0, same.1, (capped (moved_met_turns op inverse velocities marks) met-alike first l).1)
