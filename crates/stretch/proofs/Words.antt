-- The stretch is the one that the words define, and there is no other. Working definition, which no
-- promise cites: `First`. Assumes nothing.
use Prim.Native.Nat.{ℕ, zero, suc, ◌+◌, ◌-◌, ◌*◌, ◌/◌, ◌≤◌, ◌<◌}
use native.Mathlib.Omega.{arith}
use native.Mathlib.Nat.{add-zero, zero-add}
use mathlib.Core.Bool.{Bool, true, false, cond}
use mathlib.Core.Logic.{◌⊎◌, inl, inr, ⊎_elim}
use mathlib.Core.Path.{◌≡◌, refl, sym, ap, ◌∙◌, subst}
use mathlib.Core.List.{List}
use lib.Dec.{T, ltb}
use borrow.Author.Tests.{ltb-true, ltb-false}
use lib.ListN.{length, drop, length-drop}
use lib.Ieee.{Float}
use Rattle.helmert.specs.declared.State.{State}
use Rattle.lists.specs.Flat.{tuple_at}
use Rattle.lists.specs.Run.{Turns, track_of}
use Rattle.stretch.specs.Same.{alike_of}
use Rattle.stretch.specs.Kept.{tracked_of, held_of, meets_of, stretch_from, stretch_of, carried_at, kept_at, Stretch}
use Rattle.stretch.proofs.Data.{alike_are_equal, equal_are_alike}
use Rattle.lists.proofs.Results.{tuple_beyond, track_at}
use Rattle.stretch.proofs.Meeting.{track_length}

-- ---- a stretch by a test

-- n of k fixes from fix j on: the test fails before the last of them, and holds there unless they
-- are all
pub record First (p : ℕ → Bool) (j k n : ℕ) : Type 0 where
  pub some : 0 < k → 0 < n
  pub within : n ≤ k
  pub fails : (m : ℕ) → suc m < n → p (j + m) ≡ false
  pub holds : (n ≡ k) ⊎ ((m : ℕ) → suc m ≡ n → p (j + m) ≡ true)

last_holds : (p : ℕ → Bool) (j k n : ℕ) → First p (suc j) k n → (suc n ≡ suc k) ⊎ ((m : ℕ) → suc m ≡ suc n → p (j + m) ≡ true)
last_holds p j zero zero r = inl refl
last_holds p j (suc k) zero r = absurd (omega (arith, r.some (omega arith)))
last_holds p j k (suc n) r =
    ⊎_elim (λ e. inl (ap suc e))
    (λ g. inr (λ m e. let d : j + m ≡ suc j + (m - 1) = omega arith in rw d (g (m - 1) (omega arith))))
    r.holds

one_first : (p : ℕ → Bool) (j k n : ℕ) (b : Bool) → p j ≡ b → First p (suc j) k n → First p j (suc k) (cond b 1 (suc n))
one_first p j k n true e r =
    record {
      some = λ h. omega arith;
      within = omega arith;
      fails = λ m h. absurd (omega arith);
      holds = inr (λ m h. let d : j + m ≡ j = omega arith in rw d e);
    }
one_first p j k n false e r =
    record {
      some = λ h. omega arith;
      within = omega (arith, r.within);
      fails = earlier;
      holds = last_holds p j k n r;
    }
  where
    earlier : (m : ℕ) → suc m < suc n → p (j + m) ≡ false
    earlier zero h = rw (add-zero j) e
    earlier (suc m) h = let d : j + suc m ≡ suc j + m = omega arith in rw d (r.fails m (omega arith))

first : (p : ℕ → Bool) (j k : ℕ) → First p j k (stretch_from p j k)
unfolding stretch_from
first p j zero = record { some = λ h. h; within = omega arith; fails = λ m h. absurd (omega arith); holds = inl refl }
first p j (suc k) = one_first p j k (stretch_from p (suc j) k) (p j) refl (first p (suc j) k)

-- ---- the stretch by the states

module _ (f : Turns State) (state : State) (l ts : List Float) (index : ℕ) (h : 4 * index + 4 ≤ length l) where
  abbrev new : List Float
  new = track_of tracked_of f index state (drop (4 * index) l)

  abbrev old : List Float
  old = drop (4 * index) ts

  new-long : length new ≡ length l - 4 * index
  new-long = track_length f index state (drop (4 * index) l) ∙ length-drop (4 * index) l

  -- the test after a fix compares the carried state with the kept one
  test-is : (m : ℕ) → 4 * m + 4 ≤ length l - 4 * index
      → meets_of new old m ≡ alike_of (tracked_of (carried_at f index state l (index + m))) (tuple_at ts (4 * (index + m)))
  unfolding meets_of
  test-is m k =
      let e : suc (index + m) - index ≡ suc m = omega arith in
      let d : 4 * index + 4 * m ≡ 4 * (index + m) = omega arith in
      let there : 4 * m + 4 ≤ length (drop (4 * index) l) = rw (length-drop (4 * index) l) k in
      rw (e, track_at tracked_of f index state (drop (4 * index) l) m there, tuple_beyond ts (4 * index) (4 * m), d)

  meet-equal : (m : ℕ) → 4 * m + 4 ≤ length l - 4 * index → meets_of new old m ≡ true → carried_at f index state l (index + m) ≡ kept_at ts (index + m)
  meet-equal m k e = ap held_of (alike_are_equal (tracked_of (carried_at f index state l (index + m))) (tuple_at ts (4 * (index + m))) (sym (test-is m k) ∙ e))

  equal-meet : (m : ℕ) → 4 * m + 4 ≤ length l - 4 * index → carried_at f index state l (index + m) ≡ kept_at ts (index + m) → meets_of new old m ≡ true
  equal-meet m k e =
      test-is m k ∙ ap (λ (s : State). alike_of (tracked_of s) (tuple_at ts (4 * (index + m)))) e ∙ equal_are_alike (tuple_at ts (4 * (index + m)))

  pub stretch-by-states : Stretch (carried_at f index state l) (kept_at ts) index (length l / 4) (stretch_of new old)
  unfolding stretch_of
  stretch-by-states =
      let n = stretch_from (meets_of new old) 0 (length new / 4) in
      let r = first (meets_of new old) 0 (length new / 4) in
      let k : length new / 4 ≡ length l / 4 - index = omega (arith, new-long) in
      let some : 0 < n = r.some (omega (arith, new-long)) in
      let within : n ≤ length l / 4 - index = omega (arith, r.within) in
      record {
        some = some;
        within = omega arith;
        apart = λ j a b e.
            let m = j - index in
            let d : index + m ≡ j = omega arith in
            let no : meets_of new old m ≡ false = rw (zero-add m) at (r.fails m (omega arith)) in
            let yes : meets_of new old m ≡ true = equal-meet m (omega arith) (rw d e) in
            absurd (subst T (sym yes ∙ no) tt);
        ends =
            ⊎_elim (λ e. inr (omega arith))
            (λ g.
            let m = n - 1 in
            let d : index + m ≡ index + n - 1 = omega arith in
            inl (rw d at (meet-equal m (omega arith) (rw (zero-add m) at (g m (omega arith))))))
            r.holds;
      }

-- ---- no other number of fixes is a stretch

shorter : {carried kept : ℕ → State} {index count m n : ℕ} → Stretch carried kept index count m → Stretch carried kept index count n → m < n → ⊥
shorter {index = index} {m = m} a b h =
    ⊎_elim (λ e. b.apart (index + m - 1) (omega (arith, a.some)) (omega (arith, a.some)) e) (λ e. omega (arith, b.within)) a.ends

by_order : {carried kept : ℕ → State} {index count m n : ℕ} → Stretch carried kept index count m → Stretch carried kept index count n
    → (less more : Bool) → ltb m n ≡ less → ltb n m ≡ more → m ≡ n
by_order {m = m} {n = n} a b true more e d = absurd (shorter a b (ltb-true m n e))
by_order {m = m} {n = n} a b false true e d = absurd (shorter b a (ltb-true n m d))
by_order {m = m} {n = n} a b false false e d = omega (arith, ltb-false m n e, ltb-false n m d)

pub stretch_is_unique : {carried kept : ℕ → State} {index count m n : ℕ} → Stretch carried kept index count m → Stretch carried kept index count n → m ≡ n
stretch_is_unique {m = m} {n = n} a b = by_order a b (ltb m n) (ltb n m) refl refl
