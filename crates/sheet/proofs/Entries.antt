-- The entries of the record that a sheet stands for: filled one after another, blank past the step
-- count, each as `entry_at` says. Working definition, which no promise cites: `filled`. Assumes
-- nothing.
use mathlib.Core.Path.{◌≡◌, refl, ap, ◌∙◌}
use Prim.Native.Nat.{ℕ, zero, suc, ◌+◌, ◌-◌, ◌≤◌, ◌<◌}
use mathlib.Core.List.{List, ◌∷◌, ◌++◌}
use native.Mathlib.Omega.{arith}
use native.Mathlib.Nat.{zero-add, add-zero, suc-add}
use borrow.Author.Tests.{le-ltb}
use lib.ListN.{length, set, replicate, get_or}
use lib.Seq.{set_at, append_snoc}
use Rattle.sheet.specs.declared.Entry.{Entry}
use Rattle.sheet.specs.Layout.{step_count_of, blank_entry, entry_at, entries_from}

length_entries : (s : List ℕ) (k i : ℕ) → length (entries_from s k i) ≡ k
unfolding entries_from
length_entries s zero i = refl
length_entries s (suc k) i = ap suc (length_entries s k (i + 1))

entries_split : (s : List ℕ) (k m i : ℕ) → entries_from s (k + m) i ≡ entries_from s k i ++ entries_from s m (i + k)
unfolding entries_from
entries_split s zero m i = rw (zero-add, add-zero)
entries_split s (suc k) m i =
    let e : i + 1 + k ≡ i + suc k = omega arith in
    rw suc-add (ap (λ (l : List Entry). entry_at s i ∷ l) (entries_split s k m (i + 1) ∙ ap (λ (j : ℕ). entries_from s k (i + 1) ++ entries_from s m j) e))

entries_past : (s : List ℕ) (k i : ℕ) → step_count_of s ≤ i → entries_from s k i ≡ replicate k blank_entry
unfolding entries_from entry_at
entries_past s zero i h = refl
entries_past s (suc k) i h = rw (le-ltb i (step_count_of s) h, entries_past s k (i + 1) (omega arith))

-- the first i entries are read, the rest are blank
abbrev pub filled : List ℕ → ℕ → List Entry
filled s i = entries_from s i 0 ++ replicate (16 - i) blank_entry

pub filled_next : (s : List ℕ) (i : ℕ) → i < 16 → set (filled s i) i (entry_at s i) ≡ filled s (i + 1)
unfolding entries_from
filled_next s i h =
    let m = 16 - (i + 1) in
    let left : 16 - i ≡ suc m = omega arith in
    let start : 0 + i ≡ i = omega arith in
    rw (
      left,
      set_at (entries_from s i 0) blank_entry (replicate m blank_entry) (entry_at s i) i (length_entries s i 0),
      entries_split s i 1 0,
      start,
      append_snoc,
    )

pub filled_all : (s : List ℕ) (n : ℕ) → n ≤ 16 → step_count_of s ≡ n → entries_from s 16 0 ≡ filled s n
filled_all s n h e =
    let all : 16 ≡ n + (16 - n) = omega arith in
    ap (λ (k : ℕ). entries_from s k 0) all ∙ entries_split s n (16 - n) 0
    ∙ ap (λ (l : List Entry). entries_from s n 0 ++ l) (entries_past s (16 - n) (0 + n) (omega arith))

-- step i of the record
pub entry_from : (s : List ℕ) (d : Entry) (k i j : ℕ) → j < k → get_or (entries_from s k i) j d ≡ entry_at s (i + j)
unfolding entries_from
entry_from s d zero i j h = absurd (omega arith)
entry_from s d (suc k) i zero h = rw add-zero
entry_from s d (suc k) i (suc j) h =
    let e : i + 1 + j ≡ i + suc j = omega arith in
    entry_from s d k (i + 1) j (omega arith) ∙ ap (entry_at s) e
