-- A loop that fills a block place by place, with elements of any type: the start, a turn, the end.
-- Assumes nothing.
use Prim.Native.Nat.{ℕ, ◌+◌, ◌<◌, ◌≤◌}
use native.Mathlib.Nat.{not-suc-le-zero, eq-or-lt_of_le, lt_of_lt_of_le, lt_irrefl}
use native.Mathlib.Omega.{arith}
use mathlib.Core.Path.{◌≡◌, ◌∙◌, sym, subst}
use mathlib.Core.Logic.{◌⊎◌, inl, inr}
use mathlib.Core.List.{List}
use lib.ListN.{get_or, set, length, length-set}
use lib.Seq.{get_or-set_same, get_or-set_other}
use Rattle.blocks.specs.Each.{Filled}

-- a turn that writes at place i keeps what holds of each place before, and what holds of the number
-- written holds there
pub one_more_held :
    {A : Type 0} (P : ℕ → A → Type 0) (d v : A) (l : List A) (i : ℕ)
    → i < length l → P i v → ((j : ℕ) → j < i → P j (get_or l j d)) → (j : ℕ) → j < i + 1 → P j (get_or (set l i v) j d)
one_more_held {A} P d v l i room here before j h = at-or-before (eq-or-lt_of_le (up_to h))
  where
    up_to : j < i + 1 → j ≤ i
    up_to k = omega arith

    at-or-before : (j ≡ i) ⊎ (j < i) → P j (get_or (set l i v) j d)
    at-or-before (inl e) = subst (λ (k : ℕ). P k (get_or (set l i v) k d)) (sym e) (subst (P i) (sym (get_or-set_same l i v d room)) here)
    at-or-before (inr k) = subst (P j) (sym (get_or-set_other l i j v d (λ e. lt_irrefl i (subst (λ (n : ℕ). n < i) e k)))) (before j k)

-- at the start no place is filled
pub none_filled : {A : Type 0} {d : A} {l : List A} {f : ℕ → A} → length l ≡ 16 → Filled d 0 l f
none_filled b = record { block = b; held = λ j h. absurd (not-suc-le-zero h) }

-- a turn writes f's value at the first place that is not filled
pub one_more : {A : Type 0} {d v : A} {l : List A} {i : ℕ} {f : ℕ → A} → i < 16 → v ≡ f i → Filled d i l f → Filled d (i + 1) (set l i v) f
one_more {A} {d} {v} {l} {i} {f} room value before =
    record {
      block = length-set l i v ∙ before.block;
      held = one_more_held (λ (j : ℕ) (x : A). x ≡ f j) d v l i (subst (λ (n : ℕ). i < n) (sym before.block) room) value before.held;
    }

-- at the end every place is
pub all_filled : {A : Type 0} {d : A} {l : List A} {i : ℕ} {f : ℕ → A} → 16 ≤ i → Filled d i l f → Filled d 16 l f
all_filled h u = record { block = u.block; held = λ j k. u.held j (lt_of_lt_of_le k h) }

-- the values may be told in another way
pub told : {A : Type 0} {d : A} {l : List A} {f g : ℕ → A} → ((j : ℕ) → j < 16 → f j ≡ g j) → Filled d 16 l f → Filled d 16 l g
told same u = record { block = u.block; held = λ j k. u.held j k ∙ same j k }
